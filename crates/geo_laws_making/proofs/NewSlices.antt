-- The providers of a table: one for each place that is filled, named by its place; and what a name tells of it.
use Rattle.std.specs.Prelude.{◌≡◌, ◌≢◌, ℕ, suc, ◌+◌, ◌-◌, ◌*◌, ◌/◌, ◌%◌, ◌^◌, ◌<◌, ◌≤◌, Bool, true, false, List, [], ◌∷◌, ◌++◌, length, fold, filter_map, Option, Some, None, Contains, codes, decimal, slice_get, if◌then◌else◌}
use Rattle.std.specs.List.{enumerate_from, last_or}
use Rattle.std.specs.Option.{option_map, option_map_or}
use Rattle.std.proofs.Common.{inl, inr, refl, sym, ◌∙◌, ap, arith}
use Rattle.std.proofs.lemmas.Bool.Decides.{nat_tests}
use Rattle.std.proofs.lemmas.Fmt.{decimal_by_steps}
use Rattle.std.proofs.lemmas.List.Sums.{fold-append}
use Rattle.std.proofs.lemmas.Option.{slice_get_within}
use Rattle.std.proofs.lemmas.Slice.Eq.{bytes_eq-Decides}
use Rattle.geo_model.specs.Words.{same_name}
use Rattle.geo_model.specs.Names.{slice_name, logical_name}
use Rattle.geo_model.specs.ScriptWords.{is_digit}
use Rattle.geo_model.specs.Place.{slice_place, end_number}
use Rattle.geo_model.specs.Acceptance.{NewSlice}
use Rattle.geo_laws_graph.proofs.Members.{Contains-cases, nothing_in, All-from_contained}
use Rattle.geo_laws_life.proofs.Standers.{PairsByRecursion}

-- names that differ aren't the same
names-differ : (a b : List ℕ) → a ≢ b → same_name a b ≡ false
names-differ a b apart = by (same_name a b) refl where
  -- by whether they are the same
  by : (t : Bool) → same_name a b ≡ t → same_name a b ≡ false
  by true e = absurd (apart ((bytes_eq-Decides a b).0 e))
  by false e = e

module _ {X : Type 0} (name : ℕ → List ℕ) (count : X → ℕ) where
  -- the providers of the places from number k on
  abbrev pub new_of : ℕ → List (Option X) → List NewSlice
  new_of k xs =
      filter_map (λ item. option_map (λ s. record { name = name item.0; size = count s * 512 }) item.1)
      (enumerate_from k xs)

  -- a provider is that of a place that is filled
  pub record IsOfPlace (k : ℕ) (xs : List (Option X)) (x : NewSlice) : Type 0 where
    pub place : ℕ
    pub item : X
    pub at : slice_get xs place ≡ Some (Some item)
    pub name_is : x.name ≡ name (k + place)
    pub size_is : x.size ≡ count item * 512

  -- one of the places behind the first
  behind : (k : ℕ) (o : Option X) (xs : List (Option X)) (x : NewSlice) → IsOfPlace (k + 1) xs x
      → IsOfPlace k (o ∷ xs) x
  behind k o xs x rest =
      let number : k + 1 + rest.place ≡ k + suc rest.place = omega arith in
      record {
        place = suc rest.place;
        item = rest.item;
        at = rest.at;
        name_is = rest.name_is ∙ ap name number;
        size_is = rest.size_is;
      }

  -- so each is
  pub of-place : (k : ℕ) (xs : List (Option X)) (x : NewSlice) → Contains (new_of k xs) x → IsOfPlace k xs x
  of-place k [] x here = absurd (nothing_in x here)
  of-place k (None ∷ xs) x here = behind k None xs x (of-place (k + 1) xs x here)
  of-place k (Some s ∷ xs) x here =
      elim (Contains-cases _ x (new_of (k + 1) xs) here) [
        | inl first ↦
            (let number : k ≡ k + 0 = omega arith in
            record {
              place = 0;
              item = s;
              at = refl;
              name_is = ap (λ (z : NewSlice). z.name) (sym first) ∙ ap name number;
              size_is = ap (λ (z : NewSlice). z.size) (sym first);
            })
        | inr rest ↦ behind k (Some s) xs x (of-place (k + 1) xs x rest)
      ]

  -- where names tell their numbers below a limit, the names differ
  pub new-differ : (index : List ℕ → ℕ) (limit : ℕ) → ((i : ℕ) → i < limit → index (name i) ≡ i)
      → (k : ℕ) (xs : List (Option X)) → k + length xs ≤ limit
      → PairsByRecursion (λ (x y : NewSlice). same_name x.name y.name ≡ false) (new_of k xs)
  new-differ index limit tells k [] few = tt
  new-differ index limit tells k (None ∷ xs) few = new-differ index limit tells (k + 1) xs (omega (arith, few))
  new-differ index limit tells k (Some s ∷ xs) few = (
    All-from_contained (λ (y : NewSlice). same_name (name k) y.name ≡ false) (new_of (k + 1) xs) (λ y here.
        let o = of-place (k + 1) xs y here in
        let inside : o.place < length xs = slice_get_within xs o.place (Some o.item) o.at in
        names-differ (name k) y.name (λ same.
        let number : k ≡ k + 1 + o.place =
        sym (tells k (omega (arith, few))) ∙ ap index (same ∙ o.name_is)
        ∙ tells (k + 1 + o.place) (omega (arith, few, inside)) in
        omega arith)),
    new-differ index limit tells (k + 1) xs (omega (arith, few)),
  )

-- Names of slices

-- the last of some bytes, an `s` and one more
last-of_slice : (o : Option ℕ) (below : List ℕ) (b : ℕ) → last_or o (below ++ (codes "s" ++ b ∷ [])) ≡ Some b
last-of_slice o [] b = refl
last-of_slice o (x ∷ below) b = last-of_slice (Some x) below b

-- the name of a slice tells its place
pub slice-tells : (below : List ℕ) (k : ℕ) → slice_place (slice_name below k) ≡ k
slice-tells below k =
    let number : k + 49 - 49 ≡ k = omega arith in
    ap (λ o. option_map_or (λ b. b - 49) o 0) (last-of_slice None below (k + 49)) ∙ number

-- Names of partitions

-- a number with one more byte
abbrev with_byte : ℕ → ℕ → ℕ
with_byte n b = if is_digit b then 10 * n + (b - 48) else 0

-- a digit more
with-digit : (n d : ℕ) → d < 10 → with_byte n (48 + d) ≡ 10 * n + d
with-digit n d small =
    let digit : is_digit (48 + d) ≡ true = grind (arith, nat_tests) in
    let value : 10 * n + (48 + d - 48) ≡ 10 * n + d = omega arith in
    rw digit value

-- a decimal number is read as it is
decimal-number : (n : ℕ) → n < 2 ^ 64 → fold with_byte 0 (decimal n) ≡ n
decimal-number n fits = decimal_by_steps (λ n ds. fold with_byte 0 ds ≡ n) one more n fits where
  -- one digit
  one : (n : ℕ) → n < 10 → fold with_byte 0 ((48 + n) ∷ []) ≡ n
  one n small = let value : 10 * 0 + n ≡ n = omega arith in with-digit 0 n small ∙ value

  -- one digit more
  more : (n : ℕ) (ds : List ℕ) → 10 ≤ n → fold with_byte 0 ds ≡ n / 10
      → fold with_byte 0 (ds ++ (48 + n % 10) ∷ []) ≡ n
  more n ds large e =
      let small : n % 10 < 10 = omega arith in
      let value : 10 * (n / 10) + n % 10 ≡ n = omega arith in
      fold-append with_byte 0 ds ((48 + n % 10) ∷ [])
      ∙ ap (λ m. with_byte m (48 + n % 10)) e ∙ with-digit (n / 10) (n % 10) small ∙ value

-- the name of a partition tells its number, from 1 on
pub logical-tells : (below : List ℕ) (k : ℕ) → k + 1 < 2 ^ 64 → end_number (logical_name below k) ≡ k + 1
logical-tells below k fits =
    fold-append with_byte 0 (below ++ codes "l") (decimal (k + 1))
    ∙ ap (λ m. fold with_byte m (decimal (k + 1))) (fold-append with_byte 0 below (codes "l"))
    ∙ decimal-number (k + 1) fits

-- there are no more new slices than entries
pub new_few : {X : Type 0} (name : ℕ → List ℕ) (count : X → ℕ) (k : ℕ) (xs : List (Option X))
    → length (new_of name count k xs) ≤ length xs
new_few name count k [] = omega arith
new_few name count k (None ∷ xs) = let rest = new_few name count (k + 1) xs in omega (arith, rest)
new_few name count k (Some x ∷ xs) = let rest = new_few name count (k + 1) xs in omega (arith, rest)
