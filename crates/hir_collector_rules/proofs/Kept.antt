-- The namespaces that an import keeps of those that it reaches.
use Rattle.std.proofs.Common.{◌≡◌, Bool, false, refl, sym, ap, subst}
use Rattle.hir_use_tree.specs.declared.imports.ImportKind.{ImportKind}
use Rattle.hir_use_tree.specs.declared.imports.ImportKind.TheVariants as kinds
use Rattle.hir_nameres.specs.HirPerNs.declared.per_ns.PerNs.{PerNs}
use Rattle.hir_nameres.specs.HirDefMapRules.Scoping.{Resolution}
use Rattle.hir_import_rules.specs.declared.namespaces.Namespaces.{Namespaces}
use Rattle.hir_import_rules.specs.Directives.{AreAmong, namespaces_of, both_of, kept_by_kind, kept_of, open_items, no_namespaces}

-- those that an import of this kind keeps
abbrev pub kept_namespaces : ImportKind → Namespaces → Namespaces
kept_namespaces kinds.Plain t = t
kept_namespaces kinds.TypeOnly t = record { types = t.types; values = false; macros = false }
kept_namespaces kinds.Glob t = t

pub namespaces_of-kept : (k : ImportKind) (items : PerNs) → namespaces_of (kept_by_kind k items) ≡ kept_namespaces k (namespaces_of items)
namespaces_of-kept kinds.Plain items = refl
namespaces_of-kept kinds.TypeOnly items = refl
namespaces_of-kept kinds.Glob items = refl

pub AreAmong-kept : (k : ImportKind) (a b : Namespaces) → AreAmong a b → AreAmong (kept_namespaces k a) (kept_namespaces k b)
AreAmong-kept kinds.Plain a b p = p
AreAmong-kept kinds.TypeOnly a b p = record { types = p.types; values = λ h. h; macros = λ h. h }
AreAmong-kept kinds.Glob a b p = p

pub kept_namespaces-both : (k : ImportKind) (a b : Namespaces) → kept_namespaces k (both_of a b) ≡ both_of (kept_namespaces k a) (kept_namespaces k b)
kept_namespaces-both kinds.Plain a b = refl
kept_namespaces-both kinds.TypeOnly a b = refl
kept_namespaces-both kinds.Glob a b = refl

pub kept_namespaces-none : (k : ImportKind) → kept_namespaces k no_namespaces ≡ no_namespaces
kept_namespaces-none kinds.Plain = refl
kept_namespaces-none kinds.TypeOnly = refl
kept_namespaces-none kinds.Glob = refl

-- where the takings reached all that is reached, they kept all that is kept
pub AreAmong-by_kind : (k : ImportKind) (items : PerNs) (t : Namespaces) → AreAmong (namespaces_of items) t → AreAmong (namespaces_of (kept_by_kind k items))
    (kept_namespaces k t)
AreAmong-by_kind k items t p =
    subst (λ (a : Namespaces). AreAmong a (kept_namespaces k t)) (sym (namespaces_of-kept k items)) (AreAmong-kept k (namespaces_of items) t p)

-- of an answer in the crate itself all may be taken
pub kept_of-own : (k : ImportKind) (answer : Resolution) → answer.prefix_info.differing_crate ≡ false → kept_of k answer ≡ kept_by_kind k answer.resolved_def
kept_of-own k answer own = ap (λ (b : Bool). kept_by_kind k (open_items b answer.resolved_def)) own
