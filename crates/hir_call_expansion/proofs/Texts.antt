-- The texts of macros are asked for, one after another.
use Rattle.std.proofs.Common.{◌≡◌, ◌∙◌, ℕ, ◌++◌, List, [], ◌∷◌, Option, None, refl, sym, ap, map}
use Rattle.hir_collector_state.specs.HirIds.declared.macro_kind.MacroId.{MacroId}
use Rattle.hir_collector_state.specs.HirIds.declared.macro_kind.MacroId.TheVariants as macros
use Rattle.hir_collector_state.specs.HirCollectorRules.declared.source_database.Key.{Key}
use Rattle.hir_collector_state.specs.HirCollectorRules.Calls.{InnerMacro, inner_readings, text_readings}
use Rattle.hir_collector_state.specs.HirCollectorRules.State.{Core}
use Rattle.hir_collector_state.specs.HirCollectorRules.Steps.{keys_read, with_keys}
use Rattle.hir_call_expansion.proofs.Looking.{keys_read-append, with_keys-append}

-- the keys of texts, whatever the texts are
abbrev text_keys : MacroId → List Key
text_keys makro = keys_read (text_readings makro None)

abbrev pub texts_keys : List MacroId → List Key
texts_keys [] = []
texts_keys (makro ∷ others) = text_keys makro ++ texts_keys others

keys_of_text : (makro : MacroId) (text : Option (List ℕ)) → keys_read (text_readings makro text) ≡ text_keys makro
keys_of_text (macros.Macro2Id id) text = refl
keys_of_text (macros.MacroRulesId id) text = refl
keys_of_text (macros.ProcMacroId id) text = refl

keys_of_inner : (inner : List InnerMacro) (found : List MacroId) → map (λ (i : InnerMacro). i.makro) inner ≡ found → keys_read (inner_readings inner)
    ≡ texts_keys found
keys_of_inner [] found e = ap texts_keys e
keys_of_inner (i ∷ is) found e =
    keys_read-append (text_readings i.makro i.text) (inner_readings is)
    ∙ ap (λ (ks : List Key). ks ++ keys_read (inner_readings is)) (keys_of_text i.makro i.text)
    ∙ ap (λ (ks : List Key). text_keys i.makro ++ ks) (keys_of_inner is (map (λ (j : InnerMacro). j.makro) is) refl) ∙ ap texts_keys e

-- some were asked for, and with those that are left it is all
pub record AsksLeft (left all : List MacroId) (old now : Core) : Type 0 where
  pub same : now ≡ record old { asked = now.asked }
  pub keys : with_keys now.asked (texts_keys left) ≡ with_keys old.asked (texts_keys all)

pub asks_none : (all : List MacroId) (old : Core) → AsksLeft all all old old
asks_none all old = record { same = refl; keys = refl }

pub asks_one : (makro : MacroId) (left all : List MacroId) (old now new : Core)
    → new ≡ record now { asked = with_keys now.asked (keys_read (text_readings makro None)) } → AsksLeft (makro ∷ left) all old now → AsksLeft left all old new
asks_one makro left all old now new is h = record {
  same =
      let asked : List Key = with_keys now.asked (text_keys makro) in
      is ∙ ap (λ (x : Core). record x { asked = asked }) h.same ∙ ap (λ (ks : List Key). record old { asked = ks }) (sym (ap (λ (x : Core). x.asked) is));
  keys =
      ap (λ (x : Core). with_keys x.asked (texts_keys left)) is ∙ sym (with_keys-append now.asked (text_keys makro) (texts_keys left)) ∙ h.keys;
}

pub asks_all : (all : List MacroId) (old now : Core) → AsksLeft [] all old now → (inner : List InnerMacro) → map (λ (i : InnerMacro). i.makro) inner ≡ all
    → now ≡ record old { asked = with_keys old.asked (keys_read (inner_readings inner)) }
asks_all all old now h inner are =
    h.same ∙ ap (λ (ks : List Key). record old { asked = ks })
    (h.keys ∙ ap (λ (ks : List Key). with_keys old.asked ks) (sym (keys_of_inner inner all are)))
