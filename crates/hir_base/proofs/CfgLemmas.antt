-- What the parts of a condition print, one after another.
use Rattle.std.proofs.Common.{◌≡◌, ◌∙◌, ap, refl, sym, arith, ℕ, ◌+◌, ◌<◌, Bool, true, false, ◌||◌, List, [], ◌∷◌, ◌++◌, length, take, get_or}
use Rattle.std.proofs.lemmas.List.{append-nil, take_more}
use Rattle.std.proofs.lemmas.Grind.{common_steps}
use Rattle.std.specs.Prelude.{Vec, Box}
use Rattle.std.specs.declared.alloc.Global.{Global}
use Rattle.hir_base.specs.Types.{CfgAtom, CfgExpr}
use Rattle.hir_base.specs.Cfg.{Cfg, Cfgs, no_cfgs, cfg, invalid, constant, atom, all, any, unless, cfg_step, cfg_view, cfgs_view}
use Rattle.hir_base.specs.Cfg.{cfg_text, parts_text, comma_if}
use Rattle.hir_base.specs.declared.cfg.CfgExpr.TheFolds.{fold-roll-CfgExpr, fold_out-CfgExpr, map-CfgExpr}
use Rattle.hir_base.specs.declared.cfg.CfgExpr.TheViews.{out-CfgExpr, roll-CfgExpr}
use Rattle.hir_base.specs.declared.cfg.CfgExpr.TheOpen.{CfgExpr-F}
use Rattle.hir_base.specs.declared.cfg.CfgExpr.TheVariants as written

-- what stands for no condition
pub cfg_view-invalid : cfg_view written.Invalid ≡ invalid
cfg_view-invalid = ap cfg_view (sym written.rolls-Invalid) ∙ fold-roll-CfgExpr Cfg cfg_step CfgExpr-F.Invalid

-- a condition that is known
pub cfg_view-constant : (holds : Bool) → cfg_view (written.Const holds) ≡ constant holds
cfg_view-constant holds = ap cfg_view (sym (written.rolls-Const holds)) ∙ fold-roll-CfgExpr Cfg cfg_step (CfgExpr-F.Const holds)

-- the condition that an option is set
pub cfg_view-atom : (a : CfgAtom) → cfg_view (written.Atom a) ≡ atom a
cfg_view-atom a = ap cfg_view (sym (written.rolls-Atom a)) ∙ fold-roll-CfgExpr Cfg cfg_step (CfgExpr-F.Atom a)

-- the condition that all parts hold
pub cfg_view-all : (parts : Vec CfgExpr Global) → cfg_view (written.All parts) ≡ all (cfgs_view parts.items)
cfg_view-all parts = ap cfg_view (sym (written.rolls-All parts)) ∙ fold-roll-CfgExpr Cfg cfg_step (CfgExpr-F.All parts)

-- the condition that some part holds
pub cfg_view-any : (parts : Vec CfgExpr Global) → cfg_view (written.Any parts) ≡ any (cfgs_view parts.items)
cfg_view-any parts = ap cfg_view (sym (written.rolls-Any parts)) ∙ fold-roll-CfgExpr Cfg cfg_step (CfgExpr-F.Any parts)

-- the condition that a part does not hold
pub cfg_view-not : (part : Box CfgExpr Global) → cfg_view (written.Not part) ≡ unless (cfg_view part.value)
cfg_view-not part = ap cfg_view (sym (written.rolls-Not part)) ∙ fold-roll-CfgExpr Cfg cfg_step (CfgExpr-F.Not part)

-- whether there is a part
abbrev pub is_any : List CfgExpr → Bool
is_any [] = false
is_any (x ∷ xs) = true

-- one part more is printed behind a comma, unless it is the first
pub parts_text-push : (later : Bool) (parts : List CfgExpr) (part : CfgExpr)
    → parts_text later (cfgs_view (parts ++ part ∷ [])) ≡ parts_text later (cfgs_view parts) ++ (comma_if (later || is_any parts) ++ cfg_text (cfg_view part))
parts_text-push true [] part = ap (λ text. comma_if true ++ text) (append-nil (cfg_text (cfg_view part)))
parts_text-push false [] part = append-nil (cfg_text (cfg_view part))
parts_text-push true (first ∷ parts) part =
    let rest = parts_text-push true parts part in grind (arith, common_steps, rest)
parts_text-push false (first ∷ parts) part =
    let rest = parts_text-push true parts part in grind (arith, common_steps, rest)

-- with one part more there is a part
pub is_any-push : (parts : List CfgExpr) (part : CfgExpr) → is_any (parts ++ part ∷ []) ≡ true
is_any-push [] part = refl
is_any-push (first ∷ parts) part = refl

-- what was printed up to a part, and the part
pub parts_text-take : (parts : List CfgExpr) (i : ℕ) (part : CfgExpr) (later : Bool)
    → i < length parts → part ≡ get_or parts i part → later ≡ is_any (take i parts)
    → parts_text false (cfgs_view (take i parts)) ++ (comma_if later ++ cfg_text (cfg_view part)) ≡ parts_text false (cfgs_view (take (i + 1) parts))
parts_text-take parts i part later within is_there is_later =
    let one_more : take (i + 1) parts ≡ take i parts ++ part ∷ [] = take_more parts i part within ∙ ap (λ p. take i parts ++ p ∷ []) (sym is_there) in
    ap (λ b. parts_text false (cfgs_view (take i parts)) ++ (comma_if b ++ cfg_text (cfg_view part))) is_later
    ∙ sym (ap (λ ps. parts_text false (cfgs_view ps)) one_more ∙ parts_text-push false (take i parts) part)

-- up to a part and with it there is a part
pub is_any-take : (parts : List CfgExpr) (i : ℕ) (part : CfgExpr) → i < length parts → is_any (take (i + 1) parts) ≡ true
is_any-take parts i part within = ap is_any (take_more parts i part within) ∙ is_any-push (take i parts) (get_or parts i part)

-- how many conditions
abbrev pub count : Cfgs → ℕ
count no_cfgs = 0
count (cfg part parts) = count parts + 1

-- each part is one condition
pub count-cfgs_view : (parts : List CfgExpr) → count (cfgs_view parts) ≡ length parts
count-cfgs_view [] = refl
count-cfgs_view (part ∷ parts) = let rest = count-cfgs_view parts in grind (arith, rest)

-- the same conditions are as many
pub length_of_alike : (parts others : List CfgExpr) → cfgs_view parts ≡ cfgs_view others → length parts ≡ length others
length_of_alike parts others alike = sym (count-cfgs_view parts) ∙ (ap count alike ∙ count-cfgs_view others)

-- the condition of a value, by what is written at its top
pub cfg_view-out : (x : CfgExpr) → cfg_view x ≡ cfg_step (map-CfgExpr CfgExpr Cfg cfg_view (out-CfgExpr x))
cfg_view-out x = fold_out-CfgExpr Cfg cfg_step x

-- a condition of which something else is written at its top is another one
pub not_invalid : (o : CfgExpr-F CfgExpr) → (roll-CfgExpr o ≡ written.Invalid → ⊥) → invalid ≡ cfg_step (map-CfgExpr CfgExpr Cfg cfg_view o) → ⊥
not_invalid CfgExpr-F.Invalid never alike = never written.rolls-Invalid
not_invalid o never alike = (cc)

pub not_constant : (o : CfgExpr-F CfgExpr) (holds : Bool) → ((x : Bool) → roll-CfgExpr o ≡ written.Const x → ⊥)
    → constant holds ≡ cfg_step (map-CfgExpr CfgExpr Cfg cfg_view o) → ⊥
not_constant (CfgExpr-F.Const x) holds never alike = never x (written.rolls-Const x)
not_constant o holds never alike = (cc)

pub not_atom : (o : CfgExpr-F CfgExpr) (a : CfgAtom) → ((x : CfgAtom) → roll-CfgExpr o ≡ written.Atom x → ⊥)
    → atom a ≡ cfg_step (map-CfgExpr CfgExpr Cfg cfg_view o) → ⊥
not_atom (CfgExpr-F.Atom x) a never alike = never x (written.rolls-Atom x)
not_atom o a never alike = (cc)

pub not_all : (o : CfgExpr-F CfgExpr) (parts : Cfgs) → ((x : Vec CfgExpr Global) → roll-CfgExpr o ≡ written.All x → ⊥)
    → all parts ≡ cfg_step (map-CfgExpr CfgExpr Cfg cfg_view o) → ⊥
not_all (CfgExpr-F.All x) parts never alike = never x (written.rolls-All x)
not_all o parts never alike = (cc)

pub not_any : (o : CfgExpr-F CfgExpr) (parts : Cfgs) → ((x : Vec CfgExpr Global) → roll-CfgExpr o ≡ written.Any x → ⊥)
    → any parts ≡ cfg_step (map-CfgExpr CfgExpr Cfg cfg_view o) → ⊥
not_any (CfgExpr-F.Any x) parts never alike = never x (written.rolls-Any x)
not_any o parts never alike = (cc)

pub not_unless : (o : CfgExpr-F CfgExpr) (part : Cfg) → ((x : Box CfgExpr Global) → roll-CfgExpr o ≡ written.Not x → ⊥)
    → unless part ≡ cfg_step (map-CfgExpr CfgExpr Cfg cfg_view o) → ⊥
not_unless (CfgExpr-F.Not x) part never alike = never x (written.rolls-Not x)
not_unless o part never alike = (cc)
