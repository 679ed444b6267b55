-- What the invariant of a table says of its rows, and what becomes of them.
use Rattle.std.proofs.Common.{◌≡◌, ◌≢◌, ℕ, suc, ◌+◌, ◌-◌, ◌*◌, ◌<◌, ◌≤◌, ◌^◌, [], ◌∷◌, ◌++◌, Option, Some, None, is_some, IsSome, sym, refl, ap, subst, ◌∙◌, inl, inr, arith, rules}
use Rattle.std.proofs.lemmas.Bool.{cases_eq, cases_lt}
use Rattle.std.proofs.lemmas.Option.{same_Some}
use Rattle.std.proofs.lemmas.List.Sums.{sum_by-set}
use Rattle.std.specs.Option.{option_and_then}
use Rattle.slab.proofs.SlabLemmas.{ContainsKey-within}
use Rattle.slab.specs.Slab.{Slab, get, Updates, HasRoomFor, with_value as slab_with_value}
use Rattle.geo_slots.specs.Slots.{SlotsView, IsRising, value_at, first_from, with_value, without}
use Rattle.geo_slots.specs.Pages.{Pages, ArePages, AreWith, HaveRoom, IsFirst, key_at}
use Rattle.geo_slots.specs.Index.{IsIndex, row_of, rows_of, value_of}
use Rattle.geo_slots.proofs.RowLemmas.{value_at_next}
use Rattle.geo_slots.proofs.BelowLemmas.{rising_below, value_below, first_below, same_below, with_below, without_below}

-- an option, by what it is
by_option : {A : Type 0} (P : Option A → Type 0) (o : Option A) → (o ≡ None → P o) → ((x : A) → o ≡ Some x → P o) → P o
by_option P None none some = none refl
by_option P (Some x) none some = some x refl

no_some : {A : Type 0} {o : Option A} {x : A} → o ≡ Some x → o ≡ None → ⊥
no_some is none = let e = sym is ∙ none in cc

-- this is what a table has under a number, and its numbers rise and fit
pub record Shows {T : Type 0} (v : SlotsView T) (n : ℕ) (o : Option T) : Type 0 where
  pub value : o ≡ value_at v.rows n
  pub rising : IsRising 1 v.rows v.next
  pub bound : v.next < 2 ^ 64

module _ {T : Type 0} (pages : Pages) (end : ℕ) (values : Slab T) (next spare : ℕ) (i : IsIndex pages end values next
    spare) where
  -- a number that wasn't given out has no value
  no_value : (n : ℕ) → next ≤ n → value_of values pages n ≡ None
  no_value n from = ap (option_and_then (get values)) (i.pages_are.unused n from)

  none_at_0 : value_of values pages 0 ≡ None
  none_at_0 =
      by_option (λ o. option_and_then (get values) o ≡ None) (key_at pages 0) (λ none. ap (option_and_then (get values)) none)
      (λ key is. absurd (omega (arith, i.from_1 0 key is)))

  pub rising_rows : IsRising 1 (rows_of values pages next) next
  rising_rows = rising_below (value_of values pages) next none_at_0 i.starts

  -- the value of a number is the value of its key
  pub value_of_key : (n : ℕ) → value_of values pages n ≡ value_at (rows_of values pages next) n
  value_of_key n =
      elim (cases_lt n next) [
        | inl below ↦ sym (value_below (value_of values pages) next n none_at_0 i.starts below)
        | inr past ↦
            no_value n past ∙ sym (value_at_next n 1 (rows_of values pages next) next rising_rows past)
      ]

  -- a key has a value
  pub key_held : (n key : ℕ) → key_at pages n ≡ Some key → (t : T) × (get values key ≡ Some t)
  key_held n key is = some_value (get values key) (i.held n key is)
    where
      some_value : (o : Option T) → IsSome o → (t : T) × (o ≡ Some t)
      some_value None some = absurd cc
      some_value (Some t) some = (t, refl)

  value_held : (n key : ℕ) → key_at pages n ≡ Some key → IsSome (value_of values pages n)
  value_held n key is = ap is_some (ap (option_and_then (get values)) is) ∙ i.held n key is

  -- the first number with a key is that of the first row
  pub first_of_keys : (n : ℕ) (found : Option ℕ) → IsFirst (key_at pages) n next found
      → found ≡ first_from (rows_of values pages next) n
  first_of_keys n found first = first_below (value_of values pages) next n found (of_values found first)
    where
      held_some : (m : ℕ) (o : Option ℕ) → key_at pages m ≡ o → IsSome o → IsSome (value_of values pages m)
      held_some m None is some = absurd cc
      held_some m (Some key) is some = value_held m key is

      of_values : (found : Option ℕ) → IsFirst (key_at pages) n next found
          → IsFirst (value_of values pages) n next found
      of_values None first = λ k low high. ap (option_and_then (get values)) (first k low high)
      of_values (Some m) first = (
        first.0,
        first.1,
        held_some m (key_at pages m) refl first.2,
        λ k low high. ap (option_and_then (get values)) (first.3 k low high),
      )

  -- a table shows under a number what the number's key has
  pub shows : (n : ℕ) (v : SlotsView T) (key : Option ℕ)
      → ◌≡◌ {A = SlotsView T} (record { rows = rows_of values pages next; next = next; spare = spare }) v
      → key ≡ key_at pages n → Shows v n (option_and_then (get values) key)
  shows n v key seen found =
      subst (λ w. Shows w n (option_and_then (get values) key)) seen (record {
        value = ap (option_and_then (get values)) found ∙ value_of_key n;
        rising = rising_rows;
        bound = omega (arith, i.numbers);
      })

  -- values that are the same under each key of a number are the number's
  same_value : (new : Slab T) (k : ℕ) → ((key : ℕ) → key_at pages k ≡ Some key → get new key ≡ get values key)
      → value_of new pages k ≡ value_of values pages k
  same_value new k same = by_key (key_at pages k) refl
    where
      by_key : (o : Option ℕ) → key_at pages k ≡ o
          → option_and_then (get new) o ≡ option_and_then (get values) o
      by_key None is = refl
      by_key (Some key) is = same key is

  -- where one number's key changes its value, the others keep theirs
  others_same : (new : Slab T) (n key : ℕ) (slot : Option T) → key_at pages n ≡ Some key → Updates values new key slot
      → (k : ℕ) → k ≢ n → (other : ℕ) → key_at pages k ≡ Some other → get new other ≡ get values other
  others_same new n key slot is updates k differs other found =
      updates.others other
      (λ equal. differs (i.apart k n key (found ∙ ap Some equal) is))

  -- another value under a number
  pub rows_with_value : (new : Slab T) (n key : ℕ) (w : T) → key_at pages n ≡ Some key
      → Updates values new key (Some w) → rows_of new pages next ≡ with_value (rows_of values pages next) n w
  rows_with_value new n key w is updates =
      with_below (value_of values pages) (value_of new pages) n next w (value_held n key is)
      (ap (option_and_then (get new)) is ∙ updates.changed)
      (λ k differs. same_value new k (others_same new n key (Some w) is updates k differs))

  pub index_with_value : (new : Slab T) (n key : ℕ) (w : T) → key_at pages n ≡ Some key
      → Updates values new key (Some w) → HasRoomFor new spare → IsIndex pages end new next spare
  index_with_value new n key w is updates room =
      record {
        pages_are = i.pages_are;
        starts = i.starts;
        from_1 = i.from_1;
        held = λ k other found.
            elim (cases_eq other key) [
              | inl same ↦ ap is_some (ap (get new) same ∙ updates.changed)
              | inr differs ↦ ap is_some (updates.others other differs) ∙ i.held k other found
            ];
        apart = i.apart;
        paged = i.paged;
        room = room;
        numbers = i.numbers;
      }

  -- a number without its key, over a slab in which the other keys have what they had
  module _ (left : Pages) (n : ℕ) (keys : AreWith pages n None left) (new : Slab T)
      (same : (k : ℕ) → k ≢ n → (key : ℕ) → key_at pages k ≡ Some key → get new key ≡ get values key) where
    pub rows_without : rows_of new left next ≡ without (rows_of values pages next) n
    rows_without =
        without_below (value_of values pages) (value_of new left) n next
        (ap (option_and_then (get new)) keys.here)
        (λ k differs. ap (option_and_then (get new)) (keys.others k differs) ∙ same_value new k (same k differs))

    differs_from : (k key : ℕ) → key_at left k ≡ Some key → k ≢ n
    differs_from k key is equal = no_some (ap (key_at left) (sym equal) ∙ is) keys.here

    was : (k key : ℕ) → key_at left k ≡ Some key → key_at pages k ≡ Some key
    was k key is = sym (keys.others k (differs_from k key is)) ∙ is

    pub index_without : (left_end : ℕ) → left_end ≡ end → ArePages left left_end next → HasRoomFor new spare
        → IsIndex left left_end new next spare
    index_without left_end same_end pages_are room =
        record {
          pages_are = pages_are;
          starts = i.starts;
          from_1 = λ k key is. i.from_1 k key (was k key is);
          held = λ k key is.
              ap is_some (same k (differs_from k key is) key (was k key is)) ∙ i.held k key (was k key is);
          apart = λ k m key is there. i.apart k m key (was k key is) (was m key there);
          paged = omega (arith, i.paged, same_end);
          room = room;
          numbers = i.numbers;
        }

  -- what a number's key loses is no other's
  pub others_without : (new : Slab T) (n key : ℕ) → key_at pages n ≡ Some key → Updates values new key None → (k : ℕ)
      → k ≢ n → (other : ℕ) → key_at pages k ≡ Some other → get new other ≡ get values other
  others_without new n key is updates = others_same new n key None is updates

  -- the next number gets a key that was nobody's
  module _ (more : Pages) (new : Slab T) (key : ℕ) (value : T) (keys : AreWith pages next (Some key) more)
      (vacant : get values key ≡ None) (updates : Updates values new key (Some value)) where
    kept : (k : ℕ) → k ≢ next → (other : ℕ) → key_at pages k ≡ Some other → get new other ≡ get values other
    kept k differs other is =
        updates.others other
        (λ equal. no_some (ap (get values) (sym equal) ∙ (key_held k other is).1) vacant)

    pub rows_with_next : rows_of new more (next + 1) ≡ rows_of values pages next ++ (next, value) ∷ []
    rows_with_next =
        let e : next + 1 ≡ suc next = omega arith in
        ap (rows_of new more) e
        ∙ ap (λ xs. xs ++ row_of (value_of new more) next)
        (same_below (value_of values pages) (value_of new more) next (λ k below.
        let differs : k ≢ next = λ equal. omega (arith, equal, below) in
        ap (option_and_then (get new)) (keys.others k differs) ∙ same_value new k (kept k differs)))
        ∙ ap (λ o. rows_of values pages next ++ row_of (λ _. o) next)
        (ap (option_and_then (get new)) keys.here ∙ updates.changed)

    key_is : (k other : ℕ) → k ≡ next → key_at more k ≡ Some other → other ≡ key
    key_is k other equal is = same_Some _ _ (sym is ∙ ap (key_at more) equal ∙ keys.here)

    was_next : (k other : ℕ) → k ≢ next → key_at more k ≡ Some other → key_at pages k ≡ Some other
    was_next k other differs is = sym (keys.others k differs) ∙ is

    pub index_with_next : (more_end : ℕ) → more_end ≡ end → ArePages more more_end (next + 1) → 1 ≤ spare
        → HasRoomFor new (spare - 1) → IsIndex more more_end new (next + 1) (spare - 1)
    index_with_next more_end same_end pages_are some room =
        record {
          pages_are = pages_are;
          starts = omega arith;
          from_1 = λ k other is.
              elim (cases_eq k next) [
                | inl equal ↦ omega (arith, equal, i.starts)
                | inr differs ↦ i.from_1 k other (was_next k other differs is)
              ];
          held = λ k other is.
              elim (cases_eq k next) [
                | inl equal ↦ ap is_some (ap (get new) (key_is k other equal is) ∙ updates.changed)
                | inr differs ↦
                    let before = was_next k other differs is in
                    ap is_some (kept k differs other before) ∙ i.held k other before
              ];
          apart = λ k m other is there.
              elim (cases_eq k next) [
                | inl equal ↦
                    elim (cases_eq m next) [
                      | inl again ↦ equal ∙ sym again
                      | inr differs ↦
                          absurd (no_some (ap (get values) (sym (key_is k other equal is))
                          ∙ (key_held m other (was_next m other differs there)).1) vacant)
                    ]
                | inr differs ↦
                    elim (cases_eq m next) [
                      | inl again ↦
                          absurd (no_some (ap (get values) (sym (key_is m other again there))
                          ∙ (key_held k other (was_next k other differs is)).1) vacant)
                      | inr other_differs ↦
                          i.apart k m other (was_next k other differs is) (was_next m other other_differs there)
                    ]
              ];
          paged = omega (arith, i.paged, some, same_end);
          room = room;
          numbers = omega (arith, i.numbers, some);
        }

  -- more room alone was made
  module _ (more : Pages) (more_end : ℕ) (new : Slab T) (room : HaveRoom pages end more more_end)
      (kept : new ≡ record values { capacity = new.capacity }) where
    get_same : (key : ℕ) → get new key ≡ get values key
    get_same key = ap (λ s. get s key) kept

    pub rows_reserved : rows_of new more next ≡ rows_of values pages next
    rows_reserved =
        same_below (value_of values pages) (value_of new more) next (λ k below.
        ap (option_and_then (get new)) (room.same k) ∙ same_value new k (λ key is. get_same key))

    pub index_reserved : (count : ℕ) → count ≤ more_end * 64 - next → HasRoomFor new count → next + count < 2 ^ 64
        → IsIndex more more_end new next count
    index_reserved count paged has numbers =
        record {
          pages_are = room.pages_are next i.pages_are;
          starts = i.starts;
          from_1 = λ k key is. i.from_1 k key (sym (room.same k) ∙ is);
          held = λ k key is. ap is_some (get_same key) ∙ i.held k key (sym (room.same k) ∙ is);
          apart = λ k m key is there. i.apart k m key (sym (room.same k) ∙ is) (sym (room.same m) ∙ there);
          paged = paged;
          room = has;
          numbers = numbers;
        }

-- another value takes no room
pub HasRoomFor-with_value : {T : Type 0} → (values : Slab T) (key spare : ℕ) (w : T)
    → (t : T) × (get values key ≡ Some t) → HasRoomFor values spare → HasRoomFor (slab_with_value values key w) spare
HasRoomFor-with_value {T} values key spare w held room =
    search (rules, ContainsKey-within values key (ap is_some held.1), sum_by-set)
