-- What stands behind handles: what is found, and what a change leaves.
use Rattle.std.specs.Prelude.{◌≡◌, ℕ, ◌+◌, ◌-◌, ◌==◌, ◌&&◌, ◌||◌, Bool, true, false, List, [], ◌∷◌, ◌++◌, length, Option, Some, None, IsSome, map, find, option_map, if◌then◌else◌, MatchOption}
use Rattle.std.specs.List.{AllByRecursion}
use Rattle.std.specs.Option.{option_and_then, is_some}
use Rattle.std.proofs.Common.{refl, sym, ◌∙◌, ap, inl, inr, arith, length-append, subst}
use Rattle.std.proofs.lemmas.List.{length-map}
use Rattle.std.proofs.lemmas.Bool.{cases_eq}
use Rattle.geo_base.proofs.Options.{some_of}
use Rattle.geo_model.specs.Words.{same_name, names_number, change_where}
use Rattle.geo_model.specs.World.{Handle}
use Rattle.geo_slots.specs.Slots.{SlotsView, IsRising, value_at, with_insert, with_value, without}
use Rattle.geo_slots.proofs.RowLemmas.{IsRising-push, IsRising-without, IsRising-with_value, value_at_next, find-items, filter-items, without_absent, value_at-set, value_at-kept, value_at-last, value_at-other, value_at-without, value_at-gone}
use Rattle.geo_family.specs.Family.{FamilyView, is_parent}
use Rattle.geo_handles.specs.declared.key.Key.{Key}
use Rattle.geo_handles.specs.declared.records.HandleRec.{HandleRec}
use Rattle.geo_handles.specs.declared.handles.Inside.{Inside}
use Rattle.geo_handles.specs.Keys.{key_named, same_key, is_key, name_key, consumer_key, number_of_key, number_of_consumer, IsFinder}
use Rattle.geo_handles.specs.Handles.{HandlesView, handle_at, named_handle, holding_handle, closed, is_at, HoldsAlone, AreApart}
use Rattle.geo_handles.specs.Inside.{handle_row, handle_key, ready_row, handles_of, IsInside}
use Rattle.geo_handles.proofs.FinderLemmas.{keys-test, consumers-test, finds, finder-same, finder-add, finder-drop}
use Rattle.geo_handles.proofs.NumberLemmas.{ready-without}
use Rattle.geo_handles.proofs.RowLemmas.{all-rows, all-items, length-without, IsOf, find-one, change-none, change-one}

-- a number that has a key has a value
keyed : {K : Type 0} (key : HandleRec → Option K) (k : K) (o : Option HandleRec) → option_and_then key o ≡ Some k
    → IsSome o
keyed key k None e = let never : None ≡ Some k = e in absurd cc
keyed key k (Some v) e = refl

-- a change of the value that a number may have, where it has one
pub changed : (old new : SlotsView HandleRec) (k : ℕ) (change : HandleRec → HandleRec) (x : HandleRec)
    → value_at old.rows k ≡ Some x
    → MatchOption (value_at old.rows k) (new ≡ old)
    (λ y. new ≡ record old { rows = with_value old.rows k (change y) })
    → new ≡ record old { rows = with_value old.rows k (change x) }
changed old new k change x at so =
    subst (λ o. MatchOption o (new ≡ old) (λ y. new ≡ record old { rows = with_value old.rows k (change y) })) at so

-- Look-ups

module _ (rows : List (ℕ × HandleRec)) (test : Handle → Bool) (o : Option ℕ)
    (all : AllByRecursion (IsOf handle_row test o) rows) where
  -- the number that a map has is that of the handle that the test finds
  pub found-number : ((n : ℕ) → o ≡ Some n → IsSome (value_at rows n))
      → o ≡ option_map (λ h. h.number) (find test (map handle_row rows))
  found-number there =
      sym (ap (option_map (λ (h : Handle). h.number)) (find-one handle_row test o rows all) ∙ seen o there)
    where
      seen : (o : Option ℕ) → ((n : ℕ) → o ≡ Some n → IsSome (value_at rows n))
          → option_map (λ (h : Handle). h.number)
          (option_and_then (λ n. option_map (λ v. handle_row (n, v)) (value_at rows n)) o) ≡ o
      seen None there = refl
      seen (Some n) there = let v = some_of (value_at rows n) (there n refl) in rw v.1 refl

  -- and under it the handle stands
  pub found-handle : option_and_then (handle_at (map handle_row rows)) o ≡ find test (map handle_row rows)
  found-handle = under o ∙ sym (find-one handle_row test o rows all)
    where
      under : (o : Option ℕ)
          → option_and_then (handle_at (map handle_row rows)) o
          ≡ option_and_then (λ n. option_map (λ v. handle_row (n, v)) (value_at rows n)) o
      under None = refl
      under (Some n) = find-items handle_row (λ h. h.number) (λ row. refl) n rows

module _ (n : Inside) (is : IsInside n) where
  -- the map of names has the number of just the handle of the actor with the name
  pub named-all : (actor : ℕ) (name : List ℕ)
      → AllByRecursion (IsOf handle_row (λ h. (h.actor == actor) && same_name h.name name)
      (number_of_key n.names (key_named actor name))) n.table.rows
  named-all actor name =
      all-rows (IsOf handle_row (λ h. (h.actor == actor) && same_name h.name name)
      (number_of_key n.names (key_named actor name))) 1 n.table.next n.table.rows is.rising
      (λ k v at.
      sym (ap (λ o. is_key (option_and_then name_key o) (key_named actor name)) at)
      ∙ finds is_key keys-test (handle_key name_key n.table.rows) (number_of_key n.names) is.named
      (key_named actor name) k)

  -- a name's number has a value
  pub named-there : (actor : ℕ) (name : List ℕ) (k : ℕ) → number_of_key n.names (key_named actor name) ≡ Some k
      → IsSome (value_at n.table.rows k)
  named-there actor name k has =
      keyed name_key (key_named actor name) (value_at n.table.rows k) (is.named.found (key_named actor name) k has)

  -- the map of consumers has the number of just the consumer's handle
  pub held-all : (c : ℕ)
      → AllByRecursion (IsOf handle_row (λ h. names_number h.consumer c) (number_of_consumer n.consumers c))
      n.table.rows
  held-all c =
      all-rows (IsOf handle_row (λ h. names_number h.consumer c) (number_of_consumer n.consumers c)) 1 n.table.next
      n.table.rows is.rising
      (λ k v at.
      sym (ap (λ o. names_number (option_and_then consumer_key o) c) at)
      ∙ finds names_number consumers-test (handle_key consumer_key n.table.rows) (number_of_consumer n.consumers)
      is.held c k)

  -- a consumer's number has a value
  pub held-there : (c k : ℕ) → number_of_consumer n.consumers c ≡ Some k → IsSome (value_at n.table.rows k)
  held-there c k has = keyed consumer_key c (value_at n.table.rows k) (is.held.found c k has)

  -- the handle of a consumer's number has the consumer
  pub held-by : (c k : ℕ) (x : HandleRec) → number_of_consumer n.consumers c ≡ Some k
      → value_at n.table.rows k ≡ Some x → x.consumer ≡ Some c
  held-by c k x has at = sym (ap (option_and_then consumer_key) at) ∙ is.held.found c k has

  -- no other handle has the consumer, and none has the number
  pub held-alone : (c : ℕ) → HoldsAlone (map handle_row n.table.rows) c (number_of_consumer n.consumers c)
  held-alone c =
      all-items handle_row (λ h. names_number h.consumer c ≡ is_at (number_of_consumer n.consumers c) h.number)
      n.table.rows (held-all c)

  -- so no two handles have one consumer
  pub held-apart : AreApart (map handle_row n.table.rows)
  held-apart c =
      subst (HoldsAlone (map handle_row n.table.rows) c)
      (found-number n.table.rows (λ h. names_number h.consumer c) (number_of_consumer n.consumers c) (held-all c)
      (held-there c)) (held-alone c)

  -- no number without a handle
  none : {o : Option ℕ} {h : Option Handle} → o ≡ option_map (λ (h : Handle). h.number) h → h ≡ None → o ≡ None
  none same missing = same ∙ ap (option_map (λ (h : Handle). h.number)) missing

  -- a name that is free has no number
  pub named-free : (actor : ℕ) (name : List ℕ) → named_handle (map handle_row n.table.rows) actor name ≡ None
      → number_of_key n.names (key_named actor name) ≡ None
  named-free actor name free =
      none
      (found-number n.table.rows (λ h. (h.actor == actor) && same_name h.name name)
      (number_of_key n.names (key_named actor name)) (named-all actor name) (named-there actor name))
      free

  -- a consumer that is nobody's has no number
  pub held-free : (c : ℕ) → holding_handle (map handle_row n.table.rows) c ≡ None
      → number_of_consumer n.consumers c ≡ None
  held-free c free =
      none (found-number n.table.rows (λ h. names_number h.consumer c) (number_of_consumer n.consumers c)
      (held-all c) (held-there c)) free

  -- a handle that stands has a number among the children
  pub noted-there : (k : ℕ) → IsSome (handle_at (map handle_row n.table.rows) k)
      → IsSome (value_at n.ready.children k)
  noted-there k stands =
      is.alike k ∙ seen (value_at n.table.rows k)
      (sym (ap is_some (find-items handle_row (λ h. h.number) (λ row. refl) k n.table.rows)) ∙ stands)
    where
      seen : (o : Option HandleRec) → IsSome (option_map (λ v. handle_row (k, v)) o) → IsSome o
      seen None never = never
      seen (Some v) there = refl

-- a change of the handle of a consumer: what stood under its number, and the table after it
pub record ChangesHeld (n : Inside) (new : SlotsView HandleRec) (c k : ℕ)
    (change : HandleRec → HandleRec) : Type 0 where
  pub value : HandleRec
  pub has : number_of_consumer n.consumers c ≡ Some k
  pub there : value_at n.table.rows k ≡ Some value
  pub table : new ≡ record n.table { rows = with_value n.table.rows k (change value) }

-- the number that a consumer has is changed, where it has one
pub changes-held : (n : Inside) → IsInside n → (c k : ℕ) (new : SlotsView HandleRec) (change : HandleRec → HandleRec)
    → Some k ≡ number_of_consumer n.consumers c
    → MatchOption (value_at n.table.rows k) (new ≡ n.table)
    (λ y. new ≡ record n.table { rows = with_value n.table.rows k (change y) })
    → ChangesHeld n new c k change
changes-held n is c k new change found so =
    let x = some_of (value_at n.table.rows k) (held-there n is c k (sym found)) in
    record { value = x.0; has = sym found; there = x.1; table = changed n.table new k change x.0 x.1 so }

-- Changes

-- a number is there with one more number behind: it was there, or it is that one
pushed : {T : Type 0} (rows : List (ℕ × T)) (n : ℕ) (v : T) (k : ℕ)
    → is_some (value_at (rows ++ (n, v) ∷ []) k) ≡ (is_some (value_at rows k) || (n == k))
pushed [] n v k = at (n == k) refl where
  at : (b : Bool) → (n == k) ≡ b → is_some (value_at ((n, v) ∷ []) k) ≡ (n == k)
  at true e = rw e refl
  at false e = rw e refl
pushed (row ∷ rows) n v k = at (row.0 == k) refl (pushed rows n v k) where
  at : (b : Bool) → (row.0 == k) ≡ b
      → is_some (value_at (rows ++ (n, v) ∷ []) k) ≡ (is_some (value_at rows k) || (n == k))
      → is_some (value_at ((row ∷ rows) ++ (n, v) ∷ []) k) ≡ (is_some (value_at (row ∷ rows) k) || (n == k))
  at true e rest = rw e refl
  at false e rest = rw e rest

-- numbers that both lists have, one of which is taken away
taken : {T U : Type 0} (a : List (ℕ × T)) (b : List (ℕ × U)) (n : ℕ)
    → ((k : ℕ) → is_some (value_at a k) ≡ is_some (value_at b k))
    → (k : ℕ) → is_some (value_at (without a n) k) ≡ is_some (value_at (without b n) k)
taken a b n alike k =
    elim (cases_eq k n) [
      | inl same ↦ rw (same, value_at-gone n a, value_at-gone n b) refl
      | inr other ↦ rw (value_at-without n k a other, value_at-without n k b other) (alike k)
    ]

-- numbers that both lists have, one of which gets another value in the first
set_left : {T U : Type 0} (a : List (ℕ × T)) (b : List (ℕ × U)) (n : ℕ) (w : T) → IsSome (value_at a n)
    → ((k : ℕ) → is_some (value_at a k) ≡ is_some (value_at b k))
    → (k : ℕ) → is_some (value_at (with_value a n w) k) ≡ is_some (value_at b k)
set_left a b n w there alike k =
    elim (cases_eq k n) [
      | inl same ↦ rw (same, value_at-set n w a there) (sym there ∙ alike n)
      | inr other ↦ rw (value_at-kept n k w a other) (alike k)
    ]

module _ (n m : Inside) (is : IsInside n) where
  -- with a new handle, whose name and consumer had no number
  pub inside-opened : (x : HandleRec) (c : ℕ) → x.consumer ≡ Some c
      → number_of_key n.names (key_named x.actor x.name) ≡ None → number_of_consumer n.consumers c ≡ None
      → m.table ≡ with_insert n.table x
      → ((q : Key) → number_of_key m.names q
      ≡ (if same_key (key_named x.actor x.name) q then Some n.table.next else number_of_key n.names q))
      → ((q : ℕ) → number_of_consumer m.consumers q
      ≡ (if c == q then Some n.table.next else number_of_consumer n.consumers q))
      → m.ready.parents ≡ n.ready.parents → m.ready.children ≡ n.ready.children ++ (n.ready.next_child, None) ∷ []
      → m.ready.next_child ≡ n.ready.next_child + 1
      → m.live ≡ n.live + 1 → IsInside m
  inside-opened x c holds free nobodys table names consumers parents children next live = record {
    rising = rw table (IsRising-push 1 n.table.rows n.table.next x is.rising);
    named =
        rw table
        (finder-add is_key keys-test (handle_key name_key n.table.rows) (number_of_key n.names) is.named n.table.next
        (handle_key name_key (n.table.rows ++ (n.table.next, x) ∷ [])) (number_of_key m.names)
        (λ k other. ap (option_and_then name_key) (later k other)) (key_named x.actor x.name) free
        (ap (option_and_then name_key) fresh)
        (ap (option_and_then name_key) there) names);
    held =
        rw table
        (finder-add names_number consumers-test (handle_key consumer_key n.table.rows) (number_of_consumer n.consumers)
        is.held n.table.next (handle_key consumer_key (n.table.rows ++ (n.table.next, x) ∷ []))
        (number_of_consumer m.consumers)
        (λ k other. ap (option_and_then consumer_key) (later k other)) c nobodys
        (ap (option_and_then consumer_key) fresh)
        (ap (option_and_then consumer_key) there ∙ holds) consumers);
    stands = rw parents is.stands;
    alike =
        λ k. rw (
          children,
          table,
          pushed n.ready.children n.ready.next_child None k,
          pushed n.table.rows
              n.table.next x k,
          is.alike k,
          is.next,
        ) refl;
    next = rw (next, table) (ap (λ k. k + 1) is.next);
    live = rw (live, table) (omega (arith, is.live, length-append n.table.rows ((n.table.next, x) ∷ [])));
  }
    where
      fresh : value_at n.table.rows n.table.next ≡ None
      fresh = value_at_next n.table.next 1 n.table.rows n.table.next is.rising (omega arith)

      there : value_at (n.table.rows ++ (n.table.next, x) ∷ []) n.table.next ≡ Some x
      there = value_at-last n.table.next x n.table.rows fresh

      later : (k : ℕ) → (k ≡ n.table.next → ⊥)
          → value_at (n.table.rows ++ (n.table.next, x) ∷ []) k ≡ value_at n.table.rows k
      later k other = value_at-other n.table.next k x n.table.rows (λ same. other (sym same))

  -- without a handle, whose name and consumer have no number any more
  pub inside-removed : (k : ℕ) (x : HandleRec) → value_at n.table.rows k ≡ Some x
      → m.table ≡ record n.table { rows = without n.table.rows k }
      → ((q : Key) → number_of_key m.names q
      ≡ (if same_key (key_named x.actor x.name) q then None else number_of_key n.names q))
      → ((q : ℕ) → number_of_consumer m.consumers q
      ≡ (if names_number x.consumer q then None else number_of_consumer n.consumers q))
      → m.ready ≡ record n.ready { children = without n.ready.children k } → m.live ≡ n.live - 1 → IsInside m
  inside-removed k x at table names consumers ready live = record {
    rising = rw table (IsRising-without k 1 n.table.rows n.table.next is.rising);
    named =
        rw table
        (finder-drop is_key keys-test (handle_key name_key n.table.rows) (number_of_key n.names) is.named k
        (handle_key name_key (without n.table.rows k)) (number_of_key m.names)
        (λ j other. ap (option_and_then name_key) (value_at-without k j n.table.rows other))
        (Some (key_named x.actor x.name)) (ap (option_and_then name_key) at)
        (ap (option_and_then name_key) (value_at-gone k n.table.rows)) names);
    held =
        rw table
        (finder-drop names_number consumers-test (handle_key consumer_key n.table.rows) (number_of_consumer n.consumers)
        is.held k (handle_key consumer_key (without n.table.rows k))
        (number_of_consumer m.consumers)
        (λ j other. ap (option_and_then consumer_key) (value_at-without k j n.table.rows other)) x.consumer
        (ap (option_and_then consumer_key) at)
        (ap (option_and_then consumer_key) (value_at-gone k n.table.rows)) consumers);
    stands = rw ready is.stands;
    alike = λ j. rw (ready, table) (taken n.ready.children n.table.rows k is.alike j);
    next = rw (ready, table) is.next;
    live = rw (live, table) (omega (arith, is.live, length-without k x 1 n.table.next n.table.rows is.rising at));
  }

  -- without a number that has no handle
  pub inside-absent : (k : ℕ) → value_at n.table.rows k ≡ None
      → m.table ≡ record n.table { rows = without n.table.rows k } → m.names ≡ n.names → m.consumers ≡ n.consumers
      → m.ready ≡ record n.ready { children = without n.ready.children k } → m.live ≡ n.live → IsInside m
  inside-absent k absent table names consumers ready live = record {
    rising = rw (table, same) is.rising;
    named = rw (table, same, names) is.named;
    held = rw (table, same, consumers) is.held;
    stands = rw ready is.stands;
    alike = λ j. rw (ready, table) (taken n.ready.children n.table.rows k is.alike j);
    next = rw (ready, table) is.next;
    live = rw (live, table, same) is.live;
  }
    where
      same : without n.table.rows k ≡ n.table.rows
      same = without_absent k n.table.rows absent

  -- with another value under a number, which has the same name
  module _ (k : ℕ) (x w : HandleRec) (at : value_at n.table.rows k ≡ Some x)
      (table : m.table ≡ record n.table { rows = with_value n.table.rows k w }) where
    here : value_at (with_value n.table.rows k w) k ≡ Some w
    here = value_at-set k w n.table.rows (ap is_some at)

    alike_set : (j : ℕ) → is_some (value_at n.ready.children j) ≡ is_some (value_at (with_value n.table.rows k w) j)
    alike_set j = sym (set_left n.table.rows n.ready.children k w (ap is_some at) (λ i. sym (is.alike i)) j)

    kept : {K : Type 0} (key : HandleRec → Option K) → key w ≡ key x → (j : ℕ)
        → handle_key key (with_value n.table.rows k w) j ≡ handle_key key n.table.rows j
    kept key same j =
        elim (cases_eq j k) [
          | inl this ↦ rw (this, here, at) same
          | inr other ↦ ap (option_and_then key) (value_at-kept k j w n.table.rows other)
        ]

    named_kept : m.names ≡ n.names → name_key w ≡ name_key x
        → IsFinder (handle_key name_key (with_value n.table.rows k w)) (number_of_key m.names)
    named_kept names same =
        finder-same is_key keys-test (handle_key name_key n.table.rows) (number_of_key n.names) is.named
        (handle_key name_key (with_value n.table.rows k w)) (number_of_key m.names)
        (kept name_key same) (λ q. ap (λ f. number_of_key f q) names)

    length_set : length (with_value n.table.rows k w) ≡ length n.table.rows
    length_set = length-map n.table.rows (λ row. if row.0 == k then (k, w) else row)

    -- and the same consumer
    pub inside-marked : m.names ≡ n.names → m.consumers ≡ n.consumers → m.ready ≡ n.ready → m.live ≡ n.live
        → name_key w ≡ name_key x → w.consumer ≡ x.consumer → IsInside m
    inside-marked names consumers ready live same holds = record {
      rising = rw table (IsRising-with_value k w 1 n.table.rows n.table.next is.rising);
      named = rw table (named_kept names same);
      held =
          rw table
          (finder-same names_number consumers-test (handle_key consumer_key n.table.rows)
          (number_of_consumer n.consumers) is.held
          (handle_key consumer_key (with_value n.table.rows k w)) (number_of_consumer m.consumers)
          (kept consumer_key holds) (λ q. ap (λ f. number_of_consumer f q) consumers));
      stands = rw ready is.stands;
      alike = λ j. rw (ready, table) (alike_set j);
      next = rw (ready, table) is.next;
      live = rw (live, table) (is.live ∙ sym length_set);
    }

    -- and no consumer, where the one that it had has no number any more
    pub inside-reaped : m.names ≡ n.names
        → ((q : ℕ) → number_of_consumer m.consumers q
        ≡ (if names_number x.consumer q then None else number_of_consumer n.consumers q))
        → m.ready ≡ n.ready → m.live ≡ n.live → name_key w ≡ name_key x → w.consumer ≡ None → IsInside m
    inside-reaped names consumers ready live same gone = record {
      rising = rw table (IsRising-with_value k w 1 n.table.rows n.table.next is.rising);
      named = rw table (named_kept names same);
      held =
          rw table
          (finder-drop names_number consumers-test (handle_key consumer_key n.table.rows)
          (number_of_consumer n.consumers) is.held k
          (handle_key consumer_key (with_value n.table.rows k w)) (number_of_consumer m.consumers)
          (λ j other. ap (option_and_then consumer_key) (value_at-kept k j w n.table.rows other)) x.consumer
          (ap (option_and_then consumer_key) at)
          (ap (option_and_then consumer_key) here ∙ gone) consumers);
      stands = rw ready is.stands;
      alike = λ j. rw (ready, table) (alike_set j);
      next = rw (ready, table) is.next;
      live = rw (live, table) (is.live ∙ sym length_set);
    }

  -- with other room
  pub inside-reserved : ((q : Key) → number_of_key m.names q ≡ number_of_key n.names q)
      → ((q : ℕ) → number_of_consumer m.consumers q ≡ number_of_consumer n.consumers q)
      → m.table ≡ record n.table { spare = m.table.spare }
      → m.ready ≡ record n.ready { parent_room = m.ready.parent_room; child_room = m.ready.child_room }
      → m.live ≡ n.live → IsInside m
  inside-reserved names consumers table ready live = record {
    rising =
        subst (λ rows. IsRising 1 rows m.table.next) (sym rows)
        (subst (λ k. IsRising 1 n.table.rows k) (sym (ap (λ t. t.next) table)) is.rising);
    named =
        finder-same is_key keys-test (handle_key name_key n.table.rows) (number_of_key n.names) is.named
        (handle_key name_key m.table.rows) (number_of_key m.names)
        (λ k. ap (λ r. handle_key name_key r k) rows) names;
    held =
        finder-same names_number consumers-test (handle_key consumer_key n.table.rows) (number_of_consumer n.consumers)
        is.held (handle_key consumer_key m.table.rows) (number_of_consumer m.consumers)
        (λ k. ap (λ r. handle_key consumer_key r k) rows) consumers;
    stands = ap (λ p. is_parent p 1) (ap (λ f. f.parents) ready) ∙ is.stands;
    alike =
        λ k. ap (λ ch. is_some (value_at ch k)) (ap (λ f. f.children) ready) ∙ is.alike k
        ∙ sym (ap (λ r. is_some (value_at r k)) rows);
    next = ap (λ f. f.next_child) ready ∙ is.next ∙ sym (ap (λ t. t.next) table);
    live = live ∙ is.live ∙ sym (ap length rows);
  }
    where
      rows : m.table.rows ≡ n.table.rows
      rows = ap (λ t. t.rows) table

  -- with other notes of the same numbers
  pub inside-noted : m.table ≡ n.table → m.names ≡ n.names → m.consumers ≡ n.consumers → m.live ≡ n.live
      → (k : ℕ) (o : Option ℕ) → IsSome (value_at n.ready.children k)
      → m.ready ≡ record n.ready { children = with_value n.ready.children k o } → IsInside m
  inside-noted table names consumers live k o there ready = record {
    rising = rw table is.rising;
    named = rw (table, names) is.named;
    held = rw (table, consumers) is.held;
    stands = rw ready is.stands;
    alike = λ j. rw (ready, table) (set_left n.ready.children n.table.rows k o there is.alike j);
    next = rw (ready, table) is.next;
    live = rw (live, table) is.live;
  }

-- Changes as they are seen

-- the handles without one
pub rows-closed : (k : ℕ) (rows : List (ℕ × HandleRec))
    → map handle_row (without rows k) ≡ closed (map handle_row rows) k
rows-closed k rows = sym (filter-items handle_row (λ h. h.number) (λ row. refl) k rows)

-- without a number, whether a handle had it or not
pub removed-view : (n : Inside) (v : HandlesView) (k id room : ℕ) (table : SlotsView HandleRec) (ready : FamilyView)
    → handles_of n ≡ v → k ≡ id → table ≡ record n.table { rows = without n.table.rows k }
    → ready ≡ record n.ready { children = without n.ready.children k }
    → ◌≡◌ {A = HandlesView} (record {
      handles = map handle_row table.rows;
      next = table.next;
      ready = map ready_row ready.children;
      room = room;
    }) (record v { handles = closed v.handles id; ready = without v.ready id; room = room })
removed-view n v k id room table ready seen same table_is ready_is =
    rw (
      ← seen,
      table_is,
      ready_is,
      same,
      ready-without id n.ready.children,
      rows-closed id n.table.rows,
    ) refl

module _ (n : Inside) (is : IsInside n) (c : ℕ) where
  -- a change where the consumer has no number changes nothing
  pub held-none : (change : Handle → Handle) → number_of_consumer n.consumers c ≡ None
      → change_where (λ h. names_number h.consumer c) change (map handle_row n.table.rows)
      ≡ map handle_row n.table.rows
  held-none change none =
      change-none handle_row (λ h. names_number h.consumer c) change n.table.rows
      (subst (λ o. AllByRecursion (IsOf handle_row (λ h. names_number h.consumer c) o) n.table.rows) none
      (held-all n is c))

  -- else it is a change of the value under that number
  pub held-change : (change : Handle → Handle) (k : ℕ) (x w : HandleRec) → number_of_consumer n.consumers c ≡ Some k
      → value_at n.table.rows k ≡ Some x
      → change (handle_row (k, x)) ≡ handle_row (k, w)
      → change_where (λ h. names_number h.consumer c) change (map handle_row n.table.rows)
      ≡ map handle_row (with_value n.table.rows k w)
  held-change change k x w has at changed =
      change-one handle_row (λ h. names_number h.consumer c) k w change n.table.rows
      (subst (λ o. AllByRecursion (IsOf handle_row (λ h. names_number h.consumer c) o) n.table.rows) has
      (held-all n is c))
      (all-rows (λ row. row.0 ≡ k → change (handle_row row) ≡ handle_row (k, w)) 1 n.table.next n.table.rows
      is.rising (λ j v there same. only j v there same))
    where
      only : (j : ℕ) (v : HandleRec) → value_at n.table.rows j ≡ Some v → j ≡ k
          → change (handle_row (j, v)) ≡ handle_row (k, w)
      only j v there same =
          let both : Some v ≡ Some x = sym there ∙ ap (value_at n.table.rows) same ∙ at in
          let value : v ≡ x = cc in
          rw (same, value) changed
