-- The places of a concat with one more component.
use Rattle.std.specs.Prelude.{◌≡◌, ℕ, zero, suc, ◌+◌, ◌-◌, ◌<◌, ◌≤◌, nat_lt, Bool, true, false, List, [], ◌∷◌, ◌++◌, length, flat_map, sum, Option, Some, None, slice_get, if◌then◌else◌}
use Rattle.std.specs.Option.{option_to_list, option_flatten}
use Rattle.std.proofs.Common.{refl, sym, ◌∙◌, ap, arith, append_assoc}
use Rattle.std.proofs.lemmas.List.Sums.{sum_by-cons, sum_by_push}
use Rattle.std.proofs.lemmas.Bool.{lt-ltb, le-ltb, ltb-false}
use Rattle.geo_model.specs.World.{Config, Concat}
use Rattle.geo_model.specs.Place.{Spot, concat_spot}
use Rattle.geo_model.specs.Acceptance.{add_place}
use Rattle.geo_laws_growth.specs.GrowthLaws.{GrownConcat, KeepsPlaces}

-- a spot among the sizes is the same among more of them
spot_more : (k : ℕ) (sizes more : List ℕ) (o : ℕ) (spot : Spot) → concat_spot k sizes o ≡ Some spot
    → concat_spot k (sizes ++ more) o ≡ Some spot
spot_more k [] more o spot e = let no : ⊥ = cc in absurd no
spot_more k (size ∷ sizes) more o spot e = at (nat_lt o size) (spot_more (k + 1) sizes more (o - size) spot) e
  where
    at : (b : Bool) → (concat_spot (k + 1) sizes (o - size) ≡ Some spot
        → concat_spot (k + 1) (sizes ++ more) (o - size) ≡ Some spot)
        → (if b then Some (record { component = k; offset = o }) else concat_spot (k + 1) sizes (o - size)) ≡ Some spot
        → (if b then Some (record { component = k; offset = o }) else concat_spot (k + 1) (sizes ++ more) (o - size))
        ≡ Some spot
    at true rest here = here
    at false rest here = rest here

-- each offset below the sum of the sizes has a spot, which more sizes leave
spot_old : (k : ℕ) (sizes more : List ℕ) (o : ℕ) → o < sum sizes → concat_spot k (sizes ++ more) o
    ≡ concat_spot k sizes o
spot_old k [] more o less = absurd (omega (arith, less))
spot_old k (size ∷ sizes) more o less =
    at (nat_lt o size) refl (sum_by-cons (λ n. n) size sizes) (spot_old (k + 1) sizes more (o - size))
  where
    at : (b : Bool) → nat_lt o size ≡ b → sum (size ∷ sizes) ≡ size + sum sizes
        → (o - size < sum sizes → concat_spot (k + 1) (sizes ++ more) (o - size) ≡ concat_spot (k + 1) sizes (o - size))
        → (if b then Some (record { component = k; offset = o }) else concat_spot (k + 1) (sizes ++ more) (o - size))
        ≡ (if b then Some (record { component = k; offset = o }) else concat_spot (k + 1) sizes (o - size))
    at true e whole rest = refl
    at false e whole rest = let past : size ≤ o = ltb-false o size e in rest (omega (arith, less, past, whole))

-- an offset behind them has none
spot_behind : (k : ℕ) (sizes : List ℕ) (o : ℕ) → sum sizes ≤ o → concat_spot k sizes o ≡ None
spot_behind k [] o past = refl
spot_behind k (size ∷ sizes) o past =
    let whole : sum (size ∷ sizes) ≡ size + sum sizes = sum_by-cons (λ n. n) size sizes in
    let here : nat_lt o size ≡ false = le-ltb o size (omega (arith, past, whole)) in
    rw here (spot_behind (k + 1) sizes (o - size) (omega (arith, past, whole)))

-- an offset of the last size is behind the others
spot_last : (k : ℕ) (sizes : List ℕ) (size o : ℕ) → o < size
    → concat_spot k (sizes ++ size ∷ []) (sum sizes + o) ≡ Some (record { component = k + length sizes; offset = o })
spot_last k [] size o less =
    let at : 0 + o ≡ o = omega arith in
    let here : nat_lt o size ≡ true = lt-ltb o size less in
    let first : k + 0 ≡ k = omega arith in
    rw (at, here, first) refl
spot_last k (s ∷ sizes) size o less =
    let whole : sum (s ∷ sizes) + o ≡ s + sum sizes + o = ap (λ n. n + o) (sum_by-cons (λ n. n) s sizes) in
    let here : nat_lt (s + sum sizes + o) s ≡ false = le-ltb (s + sum sizes + o) s (omega arith) in
    let rest : s + sum sizes + o - s ≡ sum sizes + o = omega arith in
    let number : k + 1 + length sizes ≡ k + suc (length sizes) = omega arith in
    rw (whole, here, rest)
    (spot_last (k + 1) sizes size o less ∙ ap (λ n. Some (record { component = n; offset = o })) number)

-- an old place of a longer list
place_more : (places more : List (Option ℕ)) (k c : ℕ) → option_flatten (slice_get places k) ≡ Some c
    → option_flatten (slice_get (places ++ more) k) ≡ Some c
place_more [] more k c e = let no : ⊥ = cc in absurd no
place_more (x ∷ places) more zero c e = e
place_more (x ∷ places) more (suc k) c e = place_more places more k c e

-- is the place that it was, filled or not
place_old : (places more : List (Option ℕ)) (k : ℕ) → k < length places → slice_get (places ++ more) k
    ≡ slice_get places k
place_old [] more k less = absurd (omega (arith, less))
place_old (x ∷ places) more zero less = refl
place_old (x ∷ places) more (suc k) less = place_old places more k (omega (arith, less))

-- the last place
place_last : (places : List (Option ℕ)) (c : ℕ) → slice_get (places ++ Some c ∷ []) (length places) ≡ Some (Some c)
place_last [] c = refl
place_last (x ∷ places) c = place_last places c

-- the consumers at the places, and one more
all_places : (places : List (Option ℕ)) (c : ℕ) → flat_map option_to_list (places ++ Some c ∷ [])
    ≡ flat_map option_to_list places ++ c ∷ []
all_places [] c = refl
all_places (x ∷ places) c =
    ap (λ cs. option_to_list x ++ cs) (all_places places c)
    ∙ sym (append_assoc (option_to_list x) (flat_map option_to_list places) (c ∷ []))

-- what is the same keeps its places
pub same_places : (config : Config) → KeepsPlaces config config
same_places config = record { disk = refl; places = λ name o spot e. e; components = λ k c e. e }

-- growth keeps the places of any configuration
pub keeps_places : (config : Config) (c size : ℕ) → KeepsPlaces config (add_place config c size)
keeps_places (Concat id places sizes) c size = record {
  disk = refl;
  places = λ name o spot e. spot_more 0 sizes (size ∷ []) o spot e;
  components = λ k d e. place_more places (Some c ∷ []) k d e;
}
keeps_places config c size = same_places config

-- a concat with one more component
pub grown_concat : GrownConcat
grown_concat = record {
  old = λ id places sizes c size name o less. spot_old 0 sizes (size ∷ []) o less;
  new = λ id places sizes c size name o less.
      spot_last 0 sizes size o less ∙ (let number : 0 + length sizes
      ≡ length sizes = omega arith in ap (λ n. Some (record { component = n; offset = o })) number);
  behind = λ id places sizes c size name o past.
      let more : sum (sizes ++ size ∷ []) ≡ sum sizes + size = sum_by_push (λ n. n) sizes size in
      spot_behind 0 (sizes ++ size ∷ []) o (omega (arith, past, more));
  old_components = λ id places sizes c size k less. ap option_flatten (place_old places (Some c ∷ []) k less);
  new_component = λ id places sizes c size. ap option_flatten (place_last places c);
  all_components = λ id places sizes c size. all_places places c;
  size = λ id places sizes c size. sum_by_push (λ n. n) sizes size;
  any = keeps_places;
}
