-- Texts of macros and inputs of calls hang on no option.
use Rattle.std.specs.Prelude.{if◌then◌else◌}
use Rattle.std.proofs.Common.{◌≡◌, ◌==◌, ℕ, Bool, true, false, ◌||◌, not, List, [], ◌∷◌, ◌++◌, length, Option, Some, None, refl, ap, ap₂}
use Rattle.std.specs.Option.{option_and_then}
use Rattle.hir_collector_rules.specs.HirBase.declared.cfg.CfgAtom.{CfgAtom}
use Rattle.hir_collector_rules.specs.HirItemTree.Attributes.{Attributes}
use Rattle.hir_collector_rules.specs.HirItemTree.Source.{SourceValue, Plain, Holder, Item, Items, NodeHead, broken}
use Rattle.hir_collector_rules.specs.HirItemTree.Source.{plain, holder, no_items, item, enumeration, macro_rules}
use Rattle.hir_collector_rules.specs.HirItemTree.Source.{macro_def, extern_block, trait_item, implementation, inline_module}
use Rattle.hir_collector_rules.specs.HirItemTree.Check.{handed_in}
use Rattle.hir_collector_rules.specs.HirItemTree.SideLists.{SideEntry, entries, entry_input, entry_list, entry_of}
use Rattle.hir_collector_rules.specs.HirItemTree.SideLists.{entry_text, holder_side, is_something, item_entries}
use Rattle.hir_collector_rules.specs.HirItemTree.SideLists.{plain_side, says_something, side_lists, text_in}
use Rattle.hir_collector_rules.specs.HirItemTree.SourceTree.{side_of, source_tree_of}
use Rattle.hir_collector_rules.specs.HirItemTree.SyntaxIds.{holder_kind, node_id, plain_kind}
use Rattle.hir_collector_rules.specs.HirItemTree.declared.check.NodeId.{NodeId}
use Rattle.hir_collector_rules.specs.HirItemTree.contracts.check.NodeIdPartialEq.TheImpl as node_eq
use Rattle.hir_collector_rules.specs.Keys.{input_of, text_of}

-- two entries are of one node, with one input, and one text if it is a macro's
record IsAlike (e f : SideEntry) : Type 0 where
  pub node : f.node ≡ e.node
  pub input : f.input ≡ e.input
  pub something : is_something f.side ≡ is_something e.side
  pub text : text_in f.side ≡ text_in e.side

abbrev AreAlike : List SideEntry → List SideEntry → Type 0
AreAlike [] [] = Unit {0}
AreAlike [] (f ∷ fs) = ⊥
AreAlike (e ∷ es) [] = ⊥
AreAlike (e ∷ es) (f ∷ fs) = IsAlike e f × AreAlike es fs

both : (es fs gs hs : List SideEntry) → AreAlike es fs → AreAlike gs hs → AreAlike (es ++ gs) (fs ++ hs)
both [] [] gs hs a b = b
both [] (f ∷ fs) gs hs a b = absurd a
both (e ∷ es) [] gs hs a b = absurd a
both (e ∷ es) (f ∷ fs) gs hs a b = (a.0, both es fs gs hs a.1 b)

one : (e f : SideEntry) → IsAlike e f → AreAlike (entry_list e) (entry_list f)
one e f alike = go (says_something e) (says_something f) says
  where
    says : says_something f ≡ says_something e
    says = ap₂ (λ (input : List ℕ) (b : Bool). not (length input == 0) || b) alike.input alike.something

    go : (a b : Bool) → b ≡ a → AreAlike (if a then e ∷ [] else []) (if b then f ∷ [] else [])
    go true true same = (alike, tt)
    go true false same = absurd (let wrong : ⊥ = cc in wrong)
    go false true same = absurd (let wrong : ⊥ = cc in wrong)
    go false false same = tt

module _ (set other : CfgAtom → Bool) where
  plain_something : (p : Plain) → is_something (plain_side other p) ≡ is_something (plain_side set p)
  plain_something (enumeration name vs) = refl
  plain_something (macro_rules name definition) = refl
  plain_something (macro_def name definition) = refl
  plain_something p = refl

  plain_text : (p : Plain) → text_in (plain_side other p) ≡ text_in (plain_side set p)
  plain_text (enumeration name vs) = refl
  plain_text (macro_rules name definition) = refl
  plain_text (macro_def name definition) = refl
  plain_text p = refl

  holder_something : (k : Holder) (is : Items) → is_something (holder_side other k is) ≡ is_something (holder_side set k is)
  holder_something extern_block is = refl
  holder_something (trait_item name) is = refl
  holder_something (implementation of_trait) is = refl
  holder_something (inline_module name) is = refl

  holder_text : (k : Holder) (is : Items) → text_in (holder_side other k is) ≡ text_in (holder_side set k is)
  holder_text extern_block is = refl
  holder_text (trait_item name) is = refl
  holder_text (implementation of_trait) is = refl
  holder_text (inline_module name) is = refl

  -- the entries of a node under some options
  abbrev plain_entry : (CfgAtom → Bool) → NodeHead → Plain → SideEntry
  plain_entry options h p = record { node = node_id (plain_kind p) h.id; input = h.input; side = plain_side options p }

  abbrev holder_entry : (CfgAtom → Bool) → NodeHead → Holder → Items → SideEntry
  holder_entry options h k is = record { node = node_id (holder_kind k) h.id; input = h.input; side = holder_side options k is }

  mutual
    item_alike : (i : Item) → AreAlike (item_entries set i) (item_entries other i)
    item_alike (plain h p) = one (plain_entry set h p) (plain_entry other h p) (record { node = refl; input = refl; something = plain_something p; text = plain_text p })
    item_alike (holder h k is) =
        both (entry_list (holder_entry set h k is)) (entry_list (holder_entry other h k is)) (entries set is) (entries other is)
        (one (holder_entry set h k is) (holder_entry other h k is) (record { node = refl; input = refl; something = holder_something k is; text = holder_text k is })) (items_alike is)

    items_alike : (is : Items) → AreAlike (entries set is) (entries other is)
    items_alike no_items = tt
    items_alike (item i is) = both (item_entries set i) (item_entries other i) (entries set is) (entries other is) (item_alike i) (items_alike is)

-- ---- what is found

abbrev FoundAlike : Option SideEntry → Option SideEntry → Type 0
FoundAlike None None = Unit {0}
FoundAlike None (Some f) = ⊥
FoundAlike (Some e) None = ⊥
FoundAlike (Some e) (Some f) = IsAlike e f

found : (node : NodeId) (es fs : List SideEntry) → AreAlike es fs → FoundAlike (entry_of node es) (entry_of node fs)
found node [] [] alike = tt
found node [] (f ∷ fs) alike = absurd alike
found node (e ∷ es) [] alike = absurd alike
found node (e ∷ es) (f ∷ fs) alike = go (node_eq.ghosts.eq e.node node) (node_eq.ghosts.eq f.node node) (ap (λ (n : NodeId). node_eq.ghosts.eq n node) alike.0.node)
    (found node es fs alike.1)
  where
    go : (a b : Bool) → b ≡ a → FoundAlike (entry_of node es) (entry_of node fs) → FoundAlike (if a then Some e else entry_of node es)
        (if b then Some f else entry_of node fs)
    go true true same rest = alike.0
    go true false same rest = absurd (let wrong : ⊥ = cc in wrong)
    go false true same rest = absurd (let wrong : ⊥ = cc in wrong)
    go false false same rest = rest

same_text : (o p : Option SideEntry) → FoundAlike o p → option_and_then entry_text p ≡ option_and_then entry_text o
same_text None None alike = refl
same_text None (Some f) alike = absurd alike
same_text (Some e) None alike = absurd alike
same_text (Some e) (Some f) alike = alike.text

same_input : (o p : Option SideEntry) → FoundAlike o p → option_and_then entry_input p ≡ option_and_then entry_input o
same_input None None alike = refl
same_input None (Some f) alike = absurd alike
same_input (Some e) None alike = absurd alike
same_input (Some e) (Some f) alike = ap (λ (input : List ℕ). if length input == 0 then None else Some input) alike.input

module _ (set other : CfgAtom → Bool) (front behind : Attributes) (source : Option SourceValue) where
  sides_alike : (node : NodeId) → FoundAlike (side_of (source_tree_of set front source) node) (side_of (source_tree_of other behind source) node)
  sides_alike node = go source
    where
      go : (o : Option SourceValue) → FoundAlike (side_of (source_tree_of set front o) node) (side_of (source_tree_of other behind o) node)
      go None = found node (side_lists set broken) (side_lists other broken) (items_alike set other (handed_in broken))
      go (Some s) = found node (side_lists set s) (side_lists other s) (items_alike set other (handed_in s))

  -- the text of a macro
  pub text_stays : (node : NodeId) → text_of (source_tree_of other behind source) node ≡ text_of (source_tree_of set front source) node
  text_stays node = same_text _ _ (sides_alike node)

  -- and the input of a call
  pub input_stays : (node : NodeId) → input_of (source_tree_of other behind source) node ≡ input_of (source_tree_of set front source) node
  input_stays node = same_input _ _ (sides_alike node)
