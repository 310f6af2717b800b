-- What falls with a map, in one step or more.
use Rattle.std.proofs.Common.{◌≡◌, ◌∙◌, ap, true}
use Rattle.hir_nameres.specs.HirIds.declared.ids.MapId.{MapId}
use Rattle.hir_nameres.specs.Removal.{Depends, FallsWith, Names}
use Rattle.hir_nameres.specs.Removal.Depends.{itself, through}

pub falls_itself : (names : Names) (id : MapId) → FallsWith names id id
falls_itself names id falls f up = f

pub falls_on : (names : Names) (a b c : MapId) → FallsWith names a b → FallsWith names b c → FallsWith names a c
falls_on names a b c d e falls f up = e falls (d falls f up) up

pub falls_in_step : (names : Names) (k j : MapId) → names k j ≡ true → FallsWith names j k
falls_in_step names k j n falls f up = up k j n f

-- what falls by one relation falls by another that has more
pub falls_still : (one other : Names) → ((k j : MapId) → one k j ≡ true → other k j ≡ true) → (a b : MapId) → FallsWith one a b → FallsWith other a b
falls_still one other more a b d falls f up = d falls f (λ k j n. up k j (more k j n))

-- what depends on a map by a relation falls with it by one that covers that
pub falls_by : (names lists : Names) → ((k j : MapId) → names k j ≡ true → FallsWith lists j k) → (a b : MapId) → Depends names a b → FallsWith lists a b
falls_by names lists covers a _ (itself b e) falls f up = ap falls e ∙ f
falls_by names lists covers a _ (through b c n d) falls f up = covers b c n falls (falls_by names lists covers a c d falls f up) up

pub depends_still : (one other : Names) → ((k j : MapId) → one k j ≡ true → other k j ≡ true) → (a b : MapId) → Depends one a b → Depends other a b
depends_still one other more a _ (itself b e) = itself b e
depends_still one other more a _ (through b c n d) = through b c (more b c n) (depends_still one other more a c d)
