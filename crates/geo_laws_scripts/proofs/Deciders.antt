-- Tests that decide a fact: numbers, classes, lists, and some of them together.
use Rattle.std.specs.Prelude.{◌≡◌, ℕ, ◌≤◌, nat_le, Bool, true, ◌&&◌, List, [], ◌∷◌, Some, slice_get, IsTrue, All, ⊤}
use Rattle.std.specs.Bool.{Decides}
use Rattle.std.specs.List.{list_all}
use Rattle.std.proofs.Common.{refl, sym, ◌∙◌, ap}
use Rattle.std.proofs.lemmas.Bool.{leb-true, le-leb}
use Rattle.std.proofs.lemmas.Bool.Decides.{Decides-and, Decides-like, Decides-eqb, Decides-by_and}
use Rattle.geo_base.specs.declared.kind.Kind.{Kind}
use Rattle.geo_base.specs.declared.kind.Kind.TheVariants as kinds
use Rattle.geo_model.specs.Words.{is_kind, kind_number}

-- what always holds
pub always : Decides true ⊤
always = (λ e. tt, λ h. refl)

-- a fact that is a test
pub itself : (b : Bool) → Decides b (IsTrue b)
itself b = (λ e. e, λ e. e)

-- a number is at most another
pub at_most : (a b : ℕ) → Decides (nat_le a b) (a ≤ b)
at_most a b = (leb-true a b, le-leb a b)

-- a fact of each item
pub each : {A : Type 0} → (test : A → Bool) → (P : A → Type 0) → ((x : A) → Decides (test x) (P x)) → (xs : List A)
    → Decides (list_all test xs) (All P xs)
each test P one xs = Decides-by_and test P (list_all test) one refl (λ x xs. refl) xs

-- three facts, and four
pub three : {A B C : Type 0} → (a b c : Bool) → Decides a A → Decides b B → Decides c C
    → Decides (a && b && c) (A × B × C)
three a b c da db dc =
    Decides-like (a && b && c)
    (λ h. (h.0.0, h.0.1, h.1))
    (λ h. ((h.0, h.1), h.2))
    (Decides-and (a && b) c (Decides-and a b da db) dc)

pub four : {A B C D : Type 0} → (a b c d : Bool) → Decides a A → Decides b B → Decides c C → Decides d D
    → Decides (a && b && c && d) (A × B × C × D)
four a b c d da db dc dd =
    Decides-like (a && b && c && d)
    (λ h. (h.0.0, h.0.1, h.0.2, h.1))
    (λ h. ((h.0, h.1, h.2), h.3))
    (Decides-and (a && b && c) d (three a b c da db dc) dd)

-- the classes in the order of their numbers
abbrev classes : List Kind
classes =
    kinds.Disk ∷ kinds.Dev ∷ kinds.Taste ∷ kinds.Mbr ∷ kinds.Ebr ∷ kinds.Label ∷ kinds.Concat ∷ kinds.Stripe
    ∷ kinds.Nop ∷ []

-- a class stands in its place
in_place : (k : Kind) → slice_get classes (kind_number k) ≡ Some k
in_place kinds.Disk = refl
in_place kinds.Dev = refl
in_place kinds.Taste = refl
in_place kinds.Mbr = refl
in_place kinds.Ebr = refl
in_place kinds.Label = refl
in_place kinds.Concat = refl
in_place kinds.Stripe = refl
in_place kinds.Nop = refl

-- classes of one number are the same
same_class : (k c : Kind) → kind_number k ≡ kind_number c → k ≡ c
same_class k c e =
    let same : Some k ≡ Some c = sym (in_place k) ∙ ap (slice_get classes) e ∙ in_place c in cc

-- the class is this one
pub kind_is : (k c : Kind) → Decides (is_kind k c) (k ≡ c)
kind_is k c =
    Decides-like (is_kind k c) (same_class k c) (ap kind_number) (Decides-eqb (kind_number k) (kind_number c))
