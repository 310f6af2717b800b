use Rattle.std.proofs.Common.{◌≡◌, ◌∙◌, List, Option, sym, ap, refl}
use Rattle.hir_collector_state.specs.HirItemTree.SourceTree.{SourceTreeValue, variants_of}
use Rattle.hir_collector_state.specs.HirItemTree.declared.side_lists.VariantItem.{VariantItem}
use Rattle.hir_collector_state.specs.HirIds.declared.ids.MapId.{MapId}
use Rattle.hir_collector_state.specs.HirDefMapRules.State.{Map}
use Rattle.hir_collector_state.specs.HirNameres.WorldParts.{part_of}
use Rattle.hir_collector_state.specs.HirCollectorRules.ItemIds.{enum_id}
use Rattle.hir_collector_state.specs.HirCollectorRules.Keys.{look, of_variants, source_in}
use Rattle.hir_collector_state.specs.HirCollectorRules.State.{core_in}
use Rattle.hir_collector_state.specs.HirCollectorRules.TreeReads.{head_of}
use Rattle.hir_collector_state.specs.HirCollectorRules.declared.source_database.Key.{Key}
use Rattle.hir_collector_state.specs.HirCollectorRules.declared.source_database.Key.TheVariants as keys
use Rattle.hir_collector_state.proofs.Made.{declared_enum}
use Rattle.hir_collector_state.proofs.HirCollectorRules.Meaning.{looks_stand}
use Rattle.hir_collector_state.proofs.Noted.{noted_follow}
use Rattle.hir_collector_items.proofs.enums.declare_enum.Goals as goal

pub returns-clause-ok : goal.returns-clause-ok
returns-clause-ok g c = λ grown kept.
    let w = g.D.SourceDatabase.workspace c.args.db.now in
    let finished = part_of c.args.world in
    let read : SourceTreeValue = c.in_ok-source.source.value in
    let read_is : read ≡ source_in c.args.locations.now w (record { krate = (core_in c.args.run.now).map.id.krate; id = c.args.site.now.tree }) =
    c.in_ok-source.ensures.value ∙ ap (λ (id : MapId). source_in c.args.locations.now w (record { krate = id.krate; id = c.args.site.now.tree }))
    (c.id.ensures.value ∙ ap (λ (m : Map). m.id) c.map.ensures.value) in
    let found : Option (List VariantItem) = variants_of read c.args.head.id in
    let key : Key = keys.Variants (enum_id (core_in c.args.run.now).map c.args.site.now c.args.head.id) in
    let sees : look grown w finished key ≡ of_variants found =
    looks_stand c.args.locations.now grown w finished key kept c.requires.meant.tree
    ∙ ap (λ (s : SourceTreeValue). of_variants (variants_of s c.args.head.id)) (sym read_is) in
    record {
      step = λ done passed rest.
          declared_enum _ _ c.args.site.now (head_of c.args.head) c.args.name.now found done passed rest c.requires.enabled sees
          (rw (
            c.in_ok-declare.ensures.ok,
            c.types.ensures.value,
            c.visibility-vis.ensures.value,
            c.in_ok-add_enum.ensures.ok,
            c.in_ok-variants.ensures.value,
            c.variants.ensures.value,
            c.deref.ensures,
            c.module_id.ensures.value,
            c.in_ok-clone.ensures.value,
          ) refl);
    }

pub returns-clause-noted : goal.returns-clause-noted
returns-clause-noted g c = noted_follow c.in_ok-add_enum.ensures.noted c.in_ok-declare.ensures.noted
