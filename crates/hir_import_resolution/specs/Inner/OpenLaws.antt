-- Writes leave the finished maps beside the scopes.
use Rattle.std.proofs.Common.{◌≡◌, sym, subst, refl, Option, None, Some}
use Rattle.hir_nameres.specs.HirPerNs.declared.imports.GlobId.{GlobId}
use Rattle.hir_nameres.specs.HirPerNs.declared.visibility.Visibility.{Visibility}
use Rattle.hir_nameres.specs.WorldParts.{part_of}
use Rattle.hir_glob_imports.specs.View.{Binds, IsNameTable, with_vis}
use Rattle.hir_glob_imports.specs.declared.edge.Bound.{Bound}
use Rattle.hir_glob_imports.specs.declared.edge.Key.{Key}
use Rattle.hir_glob_imports.specs.declared.edge.Slot.{Slot}
use Rattle.hir_glob_imports.specs.declared.edge.Target.{Target}
use Rattle.hir_glob_imports.specs.declared.edge.Key.TheVariants.{Types, Values, Macros, Unnamed}
use Rattle.hir_import_resolution.specs.declared.scopes.OpenScopes.{OpenScopes}
use Rattle.hir_import_resolution.specs.Inner.TableLaws.{is_name_table}
use Rattle.hir_import_rules.specs.Names.{ScopesValue, bound_of, copied, copied_to, copied_where, followed, followed_to, followed_where, view_of}
use Rattle.hir_import_resolution.specs.Scopes.{open_table, value_of, with_value}

pub copied_stays : (n : ScopesValue) (s : Slot) (of : Target) (vis : Visibility) (by : GlobId) → (copied n s of vis by).finished ≡ n.finished
copied_stays n s of vis by = go (bound_of n of s.key)
  where
    on : (key : Key) (b : Bound) → (copied_to n s.at key vis by b).finished ≡ n.finished
    on (Types name) b = refl
    on (Values name) b = refl
    on (Macros name) b = refl
    on (Unnamed id) b = refl

    go : (o : Option Bound) → (copied_where n s vis by o).finished ≡ n.finished
    go None = refl
    go (Some b) = on s.key b

pub followed_stays : (n : ScopesValue) (s : Slot) (of : Target) (vis : Visibility) → (followed n s of vis).finished ≡ n.finished
followed_stays n s of vis = go (bound_of n of s.key)
  where
    on : (key : Key) (b : Bound) → (followed_to n s.at key vis b).finished ≡ n.finished
    on (Types name) b = refl
    on (Values name) b = refl
    on (Macros name) b = refl
    on (Unnamed id) b = refl

    go : (o : Option Bound) → (followed_where n s vis o).finished ≡ n.finished
    go None = refl
    go (Some b) = on s.key b

-- what scopes hold once they are written, where the finished maps stay
pub value_kept : (o : OpenScopes) (v : ScopesValue) → v.finished ≡ part_of o.world → value_of (with_value o v) ≡ v
value_kept o v same = λ i. record { finished = sym same i; map = v.map; globs = v.globs }

pub copies_kept : (o : OpenScopes) (s : Slot) (of : Target) (vis : Visibility) (by : GlobId)
    → value_of (with_value o (copied (value_of o) s of vis by)) ≡ copied (value_of o) s of vis by
copies_kept o s of vis by = value_kept o (copied (value_of o) s of vis by) (copied_stays (value_of o) s of vis by)

pub follows_kept : (o : OpenScopes) (s : Slot) (of : Target) (vis : Visibility)
    → value_of (with_value o (followed (value_of o) s of vis)) ≡ followed (value_of o) s of vis
follows_kept o s of vis = value_kept o (followed (value_of o) s of vis) (followed_stays (value_of o) s of vis)

-- each write does what it says of them
pub is_open_table : IsNameTable open_table
is_open_table = record {
  copies =
      λ o s of b vis by there vacant shown. subst (λ (v : ScopesValue). Binds s (with_vis b vis) (view_of (value_of o)) (view_of v))
      (sym (copies_kept o s of vis by))
      (is_name_table.copies (value_of o) s of b vis by there vacant shown);
  follows =
      λ o s of b c vis stands shown. subst (λ (v : ScopesValue). Binds s (with_vis b vis) (view_of (value_of o)) (view_of v)) (sym (follows_kept o s of vis))
      (is_name_table.follows (value_of o) s of b c vis stands shown);
  raises = λ o s c vis stands. is_name_table.raises (value_of o) s c vis stands;
}
