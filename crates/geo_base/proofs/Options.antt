-- What options and results tell.
use Rattle.std.specs.Prelude.{◌≡◌, Bool, true, false, Option, Some, None, Result, Ok, Err, is_none, is_some, IsSome, IsSomeAnd, IfSome, IfOk, IsOk, OnOk, OnErr, option_map}
use Rattle.std.specs.Option.{option_or}
use Rattle.std.proofs.Common.{refl, sym, ap, subst}

-- What is there

-- what there is
pub some_of : {X : Type 0} (o : Option X) → IsSome o → (x : X) × (o ≡ Some x)
some_of None there = absurd cc
some_of (Some x) there = (x, refl)

-- what there is, with its fact
pub some_and_of : {X : Type 0} (P : X → Type 0) (o : Option X) → IsSomeAnd o P → (x : X) × (o ≡ Some x) × P x
some_and_of P None never = absurd never
some_and_of P (Some x) fact = (x, refl, fact)

-- where a fact holds of what is there, something is there
pub there_with_fact : {X : Type 0} (P : X → Type 0) (o : Option X) → IsSomeAnd o P → IsSome o
there_with_fact P None never = absurd never
there_with_fact P (Some x) fact = refl

-- where there is something, there is something when it is seen otherwise
pub map_there : {X Y : Type 0} (f : X → Y) (o : Option X) → IsSome o → IsSome (option_map f o)
map_there f None there = there
map_there f (Some x) there = refl

-- seen otherwise, what may be there is there as before
pub is_some-map : {X Y : Type 0} (f : X → Y) (o : Option X) → is_some (option_map f o) ≡ is_some o
is_some-map f None = refl
is_some-map f (Some x) = refl

-- where two functions agree, the same is seen
pub option_map-same : {X Y : Type 0} (f g : X → Y) → ((x : X) → f x ≡ g x) → (o : Option X)
    → option_map f o ≡ option_map g o
option_map-same f g same None = refl
option_map-same f g same (Some x) = ap (λ y. Some y) (same x)

-- a value or else nothing
pub or_none : {X : Type 0} (o : Option X) → option_or o None ≡ o
or_none None = refl
or_none (Some x) = refl

-- What isn't there

-- where there isn't anything there is nothing
pub none_of : {X : Type 0} (o : Option X) → is_some o ≡ false → o ≡ None
none_of None none = refl
none_of (Some x) none = absurd cc

-- what the test finds empty is nothing
pub is_nothing : {X : Type 0} (o : Option X) → is_none o ≡ true → o ≡ None
is_nothing None none = refl
is_nothing (Some x) none = absurd cc

-- nothing is there where nothing of it is
pub none-mapped : {X Y : Type 0} (f : X → Y) (o : Option X) → option_map f o ≡ None → o ≡ None
none-mapped f None e = refl
none-mapped f (Some x) e = absurd cc

module _ {X : Type 0} where
  -- Facts of what is found

  -- a fact of what is found
  pub some-with : (o : Option X) (P : X → Type 0) (x : X) → o ≡ Some x → P x → IsSomeAnd o P
  some-with o P x e fact = subst (λ z. IsSomeAnd z P) (sym e) fact

  -- what is found is there
  pub some-there : (o : Option X) (x : X) → o ≡ Some x → IsSome o
  some-there o x e = subst (λ z. IsSome z) (sym e) refl

  -- a fact of whatever is found
  pub if-found : (o : Option X) (P : X → Type 0) → ((x : X) → o ≡ Some x → P x) → IfSome o P
  if-found None P so = tt
  if-found (Some x) P so = so x refl

  -- a fact of what is found holds if anything is
  pub if-with : (o : Option X) (P : X → Type 0) (x : X) → o ≡ Some x → P x → IfSome o P
  if-with o P x e fact = subst (λ z. IfSome z P) (sym e) fact

  -- what holds of everything holds of what is found
  pub if-any : (o : Option X) (P : X → Type 0) → ((x : X) → P x) → IfSome o P
  if-any None P so = tt
  if-any (Some x) P so = so x

  -- such a fact of what is found
  pub at-found : (o : Option X) (P : X → Type 0) (x : X) → o ≡ Some x → IfSome o P → P x
  at-found o P x e fact = subst (λ z. IfSome z P) e fact

  -- what holds of whatever is found there holds of what is found
  pub at-some : (o : Option X) (P : X → Type 0) (x : X) → o ≡ Some x → IsSomeAnd o P → P x
  at-some o P x e fact = subst (λ z. IsSomeAnd z P) e fact

  -- two things that are found in one place are one
  pub one-found : (o : Option X) (x y : X) → o ≡ Some x → o ≡ Some y → x ≡ y
  one-found o x y e f = cc

  -- nothing isn't something
  pub none-there : (o : Option X) → o ≡ None → IsSome o → ⊥
  none-there o e there = let no : false ≡ true = subst (λ z. IsSome z) e there in cc

-- a fact of what is there that follows from another
pub some_weaker : {X : Type 0} (P Q : X → Type 0) → ((x : X) → P x → Q x) → (o : Option X) → IsSomeAnd o P
    → IsSomeAnd o Q
some_weaker P Q so None has = has
some_weaker P Q so (Some x) has = so x has

-- a fact of what there is, if anything, that follows from another
pub if_some_weaker : {X : Type 0} (P Q : X → Type 0) → ((x : X) → P x → Q x) → (o : Option X) → IfSome o P → IfSome o Q
if_some_weaker P Q so None fact = fact
if_some_weaker P Q so (Some x) fact = so x fact

-- Results

-- a fact of a result that is Ok
pub on_ok : {T E : Type 0} {P : Type 0} (r : Result T E) → IsOk r → OnOk r P → P
on_ok (Ok v) is p = p
on_ok (Err e) never p = absurd cc

-- what holds anyway holds of an error
pub on_error : {A E : Type 0} (P : Type 0) (r : Result A E) → P → OnErr r P
on_error P (Ok a) fact = tt
on_error P (Err e) fact = fact

-- a fact of an answer that follows from another
pub if_ok_weaker : {A E : Type 0} (P Q : A → Type 0) (r : Result A E) → ((a : A) → P a → Q a) → IfOk r P → IfOk r Q
if_ok_weaker P Q (Ok a) so fact = so a fact
if_ok_weaker P Q (Err e) so fact = fact
