-- Tests that decide a fact of a value that may be missing, of two lists, and under a condition.
use Rattle.std.specs.Prelude.{Bool, true, false, not, ◌&&◌, ◌||◌, List, [], ◌∷◌, Option, Some, None, IsSomeAnd, IfSome, AllPairs}
use Rattle.std.specs.Bool.{Decides}
use Rattle.std.specs.List.{list_all, AllZip}
use Rattle.std.proofs.Common.{refl, arith, sym}
use Rattle.std.proofs.lemmas.Bool.{true≢false}
use Rattle.std.proofs.lemmas.Bool.Decides.{Decides-and, Decides-like}
use Rattle.std.proofs.lemmas.List.Kept.{AllPairs-cons}
use Rattle.geo_base.proofs.AllLists.{pairs_head, pairs_tail}
use Rattle.geo_laws_scripts.proofs.Deciders.{always, each}
use Rattle.geo_rows.specs.WorkedSound.{some_and, none_or, all_pairs}
use Rattle.geo_rows.specs.WorkedFitting.{all_beside}

-- a fact under a condition
pub under : {P Q : Type 0} → (a b : Bool) → Decides a P → Decides b Q → Decides (not a || b) (P → Q)
under true b d k = (λ e p. k.0 e, λ h. k.1 (h (d.0 refl)))
under false b d k = (λ e p. absurd (true≢false (sym (d.1 p))), λ h. refl)

-- a fact of a value, if there is one
pub if_there : {A : Type 0} → (o : Option A) → (test : A → Bool) → (P : A → Type 0)
    → ((x : A) → Decides (test x) (P x)) → Decides (none_or o test) (IfSome o P)
if_there None test P one = always
if_there (Some x) test P one = one x

-- there is a value, and a fact of it
pub there_and : {A : Type 0} → (o : Option A) → (test : A → Bool) → (P : A → Type 0)
    → ((x : A) → Decides (test x) (P x)) → Decides (some_and o test) (IsSomeAnd o P)
there_and None test P one = (λ e. absurd (true≢false (sym e)), λ h. absurd h)
there_and (Some x) test P one = one x

-- a fact of each two items, place by place
pub beside : {A B : Type 0} → (test : A → B → Bool) → (P : A → B → Type 0)
    → ((x : A) (y : B) → Decides (test x y) (P x y)) → (xs : List A) (ys : List B)
    → Decides (all_beside test xs ys) (AllZip P xs ys)
beside test P one [] [] = always
beside test P one [] (y ∷ ys) = (λ e. absurd (true≢false (sym e)), λ h. absurd h)
beside test P one (x ∷ xs) [] = (λ e. absurd (true≢false (sym e)), λ h. absurd h)
beside test P one (x ∷ xs) (y ∷ ys) = Decides-and (test x y) (all_beside test xs ys) (one x y) (beside test P one xs ys)

-- a fact of each two items, in order
pub pairs : {A : Type 0} → (test : A → A → Bool) → (P : A → A → Type 0) → ((x y : A) → Decides (test x y) (P x y))
    → (xs : List A) → Decides (all_pairs test xs) (AllPairs P xs)
pairs test P one [] = (λ e i j d lt below. absurd (omega arith), λ h. refl)
pairs test P one (x ∷ xs) =
    Decides-like (list_all (test x) xs && all_pairs test xs)
    (λ h. AllPairs-cons P x xs h.0 h.1)
    (λ h. (pairs_head P x xs h, pairs_tail P x xs h))
    (Decides-and (list_all (test x) xs) (all_pairs test xs) (each (test x) (P x) (one x) xs) (pairs test P one xs))
