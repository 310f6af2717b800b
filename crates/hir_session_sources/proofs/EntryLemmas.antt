use Rattle.std.proofs.Common.{◌≡◌, Bool, not, List, [], ◌∷◌, filter, None, refl, sym, ap}
use Rattle.std.specs.Map.{lookup, remove_entry}
use Rattle.hir_session_state.proofs.Truth.{on_bool}

-- where no key passes, none is left out
none_left_out : {K X : Type 0} (test : K → Bool) (es : List (K × X)) → lookup test es ≡ None → filter (λ e. not (test e.0)) es ≡ es
none_left_out test [] h = refl
none_left_out test (e ∷ es) h = on_bool (test e.0)
    (λ on. absurd (let wrong : ⊥ = cc (rw on at h) in wrong))
    (λ off. rw off (ap (λ (more : List _). e ∷ more) (none_left_out test es (rw off at h))))

-- without the only entry whose key passes
pub remove_entry-filter : {K X : Type 0} (test : K → Bool) (es : List (K × X)) → lookup test (remove_entry test es) ≡ None
    → remove_entry test es ≡ filter (λ e. not (test e.0)) es
remove_entry-filter test [] h = refl
remove_entry-filter test (e ∷ es) h = on_bool (test e.0)
    (λ on. rw on (sym (none_left_out test es (rw on at h))))
    (λ off. let left : lookup test (e ∷ remove_entry test es) ≡ None = rw off at h in
    rw off (ap (λ (more : List _). e ∷ more) (remove_entry-filter test es (rw off at left))))
