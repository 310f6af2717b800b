-- Items come to one listing.
use Rattle.std.proofs.Common.{◌≡◌, ◌∙◌, ℕ, ◌+◌, List, ◌++◌, None, Some, refl, sym, ap, subst, arith}
use Rattle.hir_collector_rules.specs.HirBase.Cfg.{Cfg}
use Rattle.hir_collector_rules.specs.HirBase.ModPath.{Path}
use Rattle.hir_collector_rules.specs.HirIds.declared.ast_id.AstId.{AstId}
use Rattle.hir_collector_rules.specs.HirIds.declared.ast_id.MacroCallId.{MacroCallId}
use Rattle.hir_collector_rules.specs.HirIds.declared.macro_kind.MacroId.{MacroId}
use Rattle.hir_collector_rules.specs.HirTables.Tables.{HasEachOnce}
use Rattle.hir_collector_rules.specs.Calls.{call_tree}
use Rattle.hir_collector_rules.specs.Keys.{Environment}
use Rattle.hir_assoc_items.specs.AssocItems.{Becomes, CallBecomes, ContainerValue, FlattensTo, IsNumberOfCall, ListingValue, call, call_loc, call_error}
use Rattle.hir_assoc_items.specs.AssocItems.{call_source, expanded, first_missing, followed_by, inner_paths, left_out, listed, next, none, one_call, too_deep, unconfigured}
use Rattle.hir_assoc_items.specs.AssocItems.{unreached, unresolved, waits}
use Rattle.hir_assoc_items.specs.Laws.{ListingIsUnique}
use Rattle.hir_assoc_items.specs.Written.{WrittenValue, item_node, path_called, top_items, written}

module _ (env : Environment) (c : ContainerValue) (once : HasEachOnce env.tables) where
  -- a call has one number
  number_one : (node : AstId) (makro : MacroId) (m n : MacroCallId) → IsNumberOfCall env c node makro m → IsNumberOfCall env c node makro n → m ≡ n
  number_one node makro m n p q =
      let entry : p.entry.0 ≡ q.entry.0 = once.entries p.entry.0 q.entry.0 _ p.depends q.depends in
      let loc : call_loc node q.entry ≡ call_loc node p.entry = ap (λ (k : ℕ). call_loc node (record { 0 = k })) (sym entry) in
      let number : m.0 ≡ n.0 = once.calls m.0 n.0 (call_loc node p.entry) p.call (q.call ∙ ap Some loc) in
      ap (λ (k : ℕ). record { 0 = k }) number

  module _ (i : WrittenValue) where
    abbrev Same : ListingValue → ListingValue → List WrittenValue → List WrittenValue → Type 0
    Same a b xs ys = (a ≡ b) × (xs ≡ ys)

    of_call : (path : Path) (a b : ListingValue) (xs ys : List WrittenValue) → CallBecomes env c i path a xs → CallBecomes env c i path b ys → Same a b xs ys
    of_call path _ _ _ _ (too_deep p) (too_deep q) = (refl, refl)
    of_call path _ _ _ _ (too_deep p) (unreached q none_there) = absurd (omega arith)
    of_call path _ _ _ _ (too_deep p) (waits makro inner q reached missing) = absurd (omega arith)
    of_call path _ _ _ _ (too_deep p) (expanded makro id q reached all number) = absurd (omega arith)
    of_call path _ _ _ _ (unreached p none_there) (too_deep q) = absurd (omega arith)
    of_call path _ _ _ _ (unreached p none_there) (unreached q nothing_there) = (refl, refl)
    of_call path _ _ _ _ (unreached p none_there) (waits makro inner q reached missing) = absurd (let no : ⊥ = cc in no)
    of_call path _ _ _ _ (unreached p none_there) (expanded makro id q reached all number) = absurd (let no : ⊥ = cc in no)
    of_call path _ _ _ _ (waits makro inner p reached missing) (too_deep q) = absurd (omega arith)
    of_call path _ _ _ _ (waits makro inner p reached missing) (unreached q none_there) = absurd (let no : ⊥ = cc in no)
    of_call path _ _ _ _ (waits makro inner p reached missing) (waits other lacking q also lacks) =
        let same : other ≡ makro = cc in
        let there : first_missing c (inner_paths env c (item_node i) makro) ≡ Some lacking =
        subst (λ (k : MacroId). first_missing c (inner_paths env c (item_node i) k) ≡ Some lacking) same lacks in
        let one : inner ≡ lacking = cc in (ap (λ (k : Path). unresolved c i k) one, refl)
    of_call path _ _ _ _ (waits makro inner p reached missing) (expanded other by q also all numbered) =
        let same : other ≡ makro = cc in
        let none_lacks : first_missing c (inner_paths env c (item_node i) makro) ≡ None =
        subst (λ (k : MacroId). first_missing c (inner_paths env c (item_node i) k) ≡ None) same all in
        absurd (let no : ⊥ = cc in no)
    of_call path _ _ _ _ (expanded makro id p reached all number) (too_deep q) = absurd (omega arith)
    of_call path _ _ _ _ (expanded makro id p reached all number) (unreached q none_there) = absurd (let no : ⊥ = cc in no)
    of_call path _ _ _ _ (expanded makro id p reached all number) (waits other lacking q also lacks) =
        let same : other ≡ makro = cc in
        let there : first_missing c (inner_paths env c (item_node i) makro) ≡ Some lacking =
        subst (λ (k : MacroId). first_missing c (inner_paths env c (item_node i) k) ≡ Some lacking) same lacks in
        absurd (let no : ⊥ = cc in no)
    of_call path _ _ _ _ (expanded makro id p reached all number) (expanded other by q also every numbered) =
        let same : other ≡ makro = cc in
        let one : id ≡ by = number_one (item_node i) makro id by number (subst (λ (k : MacroId). IsNumberOfCall env c (item_node i) k by) same numbered) in (
          ap (λ (k : MacroCallId). one_call c (item_node i) k path (call_error env c (item_node i) makro)) one
              ∙ ap (λ (k : MacroId). one_call c (item_node i) by path (call_error env c (item_node i) k)) (sym same),
          ap (λ (k : MacroCallId). written (call_tree k) (i.level + 1) (top_items (call_source env c k).tree.items)) one,
        )

    of_item : (a b : ListingValue) (xs ys : List WrittenValue) → Becomes env c i a xs → Becomes env c i b ys → Same a b xs ys
    of_item _ _ _ _ (left_out condition p) (left_out other q) = let same : condition ≡ other = cc in (ap (λ (k : Cfg). unconfigured env c i k) same, refl)
    of_item _ _ _ _ (left_out condition p) (listed q is) = absurd (let no : ⊥ = cc in no)
    of_item _ _ _ _ (left_out condition p) (call path b ys q becomes) = absurd (let e : i.disabled ≡ None = q.enabled in let no : ⊥ = cc in no)
    of_item _ _ _ _ (listed p is) (left_out condition q) = absurd (let no : ⊥ = cc in no)
    of_item _ _ _ _ (listed p is) (listed q also) = (refl, refl)
    of_item _ _ _ _ (listed p is) (call path b ys q becomes) = absurd (let e : path_called i.kind ≡ Some path = q.call in let no : ⊥ = cc in no)
    of_item _ _ _ _ (call path a xs p becomes) (left_out condition q) = absurd (let e : i.disabled ≡ None = p.enabled in let no : ⊥ = cc in no)
    of_item _ _ _ _ (call path a xs p becomes) (listed q is) = absurd (let e : path_called i.kind ≡ Some path = p.call in let no : ⊥ = cc in no)
    of_item _ _ _ _ (call path a xs p becomes) (call other b ys q also) =
        let here : path_called i.kind ≡ Some path = p.call in
        let there : path_called i.kind ≡ Some other = q.call in
        let same : other ≡ path = cc in
        of_call path a b xs ys becomes (subst (λ (k : Path). CallBecomes env c i k b ys) same also)

  of_items : (items : List WrittenValue) (a b : ListingValue) → FlattensTo env c items a → FlattensTo env c items b → a ≡ b
  of_items _ _ _ none none = refl
  of_items _ _ _ (next i rest ahead inside behind becomes more) (next _ _ other within after also others) =
      let same = of_item i ahead other inside within becomes also in
      let back : FlattensTo env c (inside ++ rest) after = subst (λ (is : List WrittenValue). FlattensTo env c (is ++ rest) after) (sym same.1) others in
      let tail : behind ≡ after = of_items (inside ++ rest) behind after more back in
      ap (λ (l : ListingValue). followed_by l behind) same.0 ∙ ap (λ (l : ListingValue). followed_by other l) tail

pub unique : ListingIsUnique
unique env c items a b once p q = of_items env c once items a b p q
