-- What the lists keep, as one more waits and as one less does.
use Rattle.std.specs.Prelude.{◌≡◌, ℕ, ◌+◌, ◌*◌, ◌%◌, ◌^◌, ◌<◌, ◌≤◌, ◌==◌, nat_lt, Bool, true, false, not, ◌&&◌, ◌||◌, List, [], ◌∷◌, ◌++◌, Option, Some, None, option_map, Result, Ok, Err, OnOk}
use Rattle.std.specs.List.{list_all}
use Rattle.std.proofs.Common.{append-nil, append_assoc, length-append, refl, sym, ◌∙◌, ap, subst, arith, inl, inr, rules}
use Rattle.std.proofs.lemmas.Bool.{eqb-true, cases_Bool}
use Rattle.std.proofs.lemmas.List.Elements.{filter-append}
use Rattle.std.proofs.lemmas.List.Folds.{list_all-append}
use Rattle.std.proofs.lemmas.Nat.{mod-mul-add}
use Rattle.geo_headline.specs.Sweep.{Waiting, before_flush, candidates, next_of}
use Rattle.geo_elev.specs.declared.lists.Place.{Place}
use Rattle.geo_elev.specs.Front.{IsNextKey, is_none_of, with_key}
use Rattle.geo_elev.specs.Lists.{AreLists, HasKeys, Rises, all_waiting, are_below, has_no_flush, joins, key_of, listed, waiting_at, waiting_in, without}
use Rattle.geo_elev.proofs.Candidates.{absent_stays, candidates_joined, has_bio, joined, one_less, wider, without_rises, next_ahead, next_least, among_listed, at_own, listed_below, listed_keys, listed_less, listed_more, listed_open, none_listed, open_listed}

-- What went well

-- by what holds where it does
pub both_ok : {T E A B C : Type 0} (r : Result T E) → OnOk r A → OnOk r B → (A → B → C) → OnOk r C
both_ok (Ok x) is also gives = gives is also
both_ok (Err e) is also gives = tt

-- Lists of what waits

-- there are some where one is at their end
some_behind : (xs : List Waiting) (y : Waiting) (ys : List Waiting) → is_none_of (xs ++ y ∷ ys) ≡ false
some_behind [] y ys = refl
some_behind (x ∷ xs) y ys = refl

-- they are fewer than with more behind
not_longer : (xs : List Waiting) (y : Waiting) (ys : List Waiting) → xs ≡ xs ++ y ∷ ys → ⊥
not_longer xs y ys same = search (rules, length-append xs (y ∷ ys))

-- numbers that rise in a whole list rise in its first part
rises_front : (low : ℕ) (xs ys : List Waiting) → Rises low (xs ++ ys) → Rises low xs
rises_front low [] ys rise = tt
rises_front low (x ∷ xs) ys rise = (rise.0, rise.1, rises_front (x.bio + 1) xs ys rise.2)

-- and in the rest
rises_back : (low : ℕ) (xs ys : List Waiting) → Rises low (xs ++ ys) → Rises low ys
rises_back low [] ys rise = rise
rises_back low (x ∷ xs) ys rise =
    wider low (x.bio + 1) ys (rises_back (x.bio + 1) xs ys rise.2) (let least = rise.0 in omega (arith, least))

-- what stands in front of one has smaller numbers
front_below : (low : ℕ) (xs : List Waiting) (y : Waiting) (ys : List Waiting) → Rises low (xs ++ y ∷ ys)
    → (low ≤ y.bio) × (are_below y.bio xs ≡ true)
front_below low [] y ys rise = (rise.0, refl)
front_below low (x ∷ xs) y ys rise = search (rules, front_below (x.bio + 1) xs y ys rise.2)

-- what stands in front isn't behind
without_behind : (bio low : ℕ) (xs ys : List Waiting) → Rises low (xs ++ ys) → has_bio bio xs ≡ true
    → without bio ys ≡ ys
without_behind bio low [] ys rise has = absurd (let bad : ⊥ = cc in bad)
without_behind bio low (x ∷ xs) ys rise has =
    elim (cases_Bool (x.bio == bio)) [
      | inl e ↦
          let same = eqb-true x.bio bio e in
          absent_stays bio (x.bio + 1) ys (rises_back (x.bio + 1) xs ys rise.2) (omega (arith, same))
      | inr e ↦ without_behind bio (x.bio + 1) xs ys rise.2 (sym (ap (λ (c : Bool). c || has_bio bio xs) e) ∙ has)
    ]

-- all are below a greater number too
below_wider : (a b : ℕ) (xs : List Waiting) → a ≤ b → are_below a xs ≡ true → are_below b xs ≡ true
below_wider a b [] most below = refl
below_wider a b (x ∷ xs) most below = search (rules, below_wider a b xs most)

-- with one more
below_joined : (b : ℕ) (xs : List Waiting) (y : Waiting) → are_below b xs ≡ true → y.bio < b
    → are_below b (xs ++ y ∷ []) ≡ true
below_joined b xs y below less = search (rules, list_all-append (λ x. nat_lt x.bio b) xs (y ∷ []))

-- and with one less
below_without : (b bio : ℕ) (xs : List Waiting) → are_below b xs ≡ true → are_below b (without bio xs) ≡ true
below_without b bio [] below = refl
below_without b bio (x ∷ xs) below = search (rules, below_without b bio xs)

-- What may be taken next of a list in two parts

-- where no FLUSH waits all may be
open_front : (xs ys : List Waiting) → has_no_flush xs ≡ true → before_flush ys ≡ [] → before_flush (xs ++ ys) ≡ xs
open_front [] ys all end = end
open_front (x ∷ xs) ys all end = search (rules, open_front xs ys)

-- so are those that stand before the first one
pub open_next : (xs ys : List Waiting) → is_none_of xs ≡ false → has_no_flush xs ≡ true → before_flush ys ≡ []
    → candidates (xs ++ ys) ≡ xs
open_next [] ys some all end = absurd (let bad : ⊥ = cc in bad)
open_next (x ∷ xs) ys some all end = search (rules, open_front xs ys)

-- whether one more joins some
joins_some : (xs : List Waiting) (flush : Bool) → is_none_of xs ≡ false → joins xs flush
    ≡ (has_no_flush xs && not flush)
joins_some [] flush some = absurd (let bad : ⊥ = cc in bad)
joins_some (x ∷ xs) flush some = refl

module _ (keys : List ℕ) (flush : Bool) where
  -- it doesn't join them where some come behind
  pub joins_later : (later : List (ℕ × Place)) (last : ℕ) (more : Bool) → AreLists keys flush later last
      → is_none_of later ≡ false → false ≡ joins (all_waiting keys flush later) more
  joins_later [] last more are some = absurd (let bad : ⊥ = cc in bad)
  joins_later (e ∷ later) last more are some =
      sym (search (rules, shut (has_no_flush all)))
    where
      all : List Waiting
      all = all_waiting keys flush (e ∷ later)

      all_next : (xs : List Waiting) → is_none_of xs ≡ false → has_no_flush xs ≡ true → candidates xs ≡ xs
      all_next xs are_some e = sym (ap candidates (append-nil xs)) ∙ open_next xs [] are_some e refl

      shut : (b : Bool) → has_no_flush all ≡ b → b ≡ false
      shut true f =
          absurd (not_longer (listed flush keys) (waiting_at e) (waiting_in later)
          (sym are.next ∙ all_next all (some_behind (listed flush keys) (waiting_at e) (waiting_in later)) f))
      shut false f = refl

  -- where only the keys wait, it does where neither is a FLUSH
  pub joins_front : (later : List (ℕ × Place)) (more : Bool) → is_none_of later ≡ true → is_none_of keys ≡ false
      → not (flush || more) ≡ joins (all_waiting keys flush later) more
  joins_front later more none some = by later keys none some
    where
      not_or : (a b : Bool) → not (a || b) ≡ (not a && not b)
      not_or true b = refl
      not_or false b = refl

      by : (es : List (ℕ × Place)) (ks : List ℕ) → is_none_of es ≡ true → is_none_of ks ≡ false
          → not (flush || more) ≡ joins (all_waiting ks flush es) more
      by [] (k ∷ ks) no_more some_key =
          search (rules, joins_some (listed flush (k ∷ ks)) more (none_listed flush (k ∷ ks)), open_listed flush k ks)
      by (e ∷ es) ks no_more some_key = absurd (let bad : ⊥ = cc in bad)
      by [] [] no_more some_key = absurd (let bad : ⊥ = cc in bad)

-- One more

-- the numbers rise with a greater one behind
rise_joined : (low : ℕ) (xs : List Waiting) (y : Waiting) → Rises low xs → low ≤ y.bio → y.bio < 2 ^ 64
    → are_below y.bio xs ≡ true → Rises low (xs ++ y ∷ [])
rise_joined low [] y rise high small below = (high, small, tt)
rise_joined low (x ∷ xs) y rise high small below = search (rules, rise_joined (x.bio + 1) xs y rise.2)

-- one more waits behind all, and the lists have it
pub record Put (keys more : List ℕ) (flush now : Bool) (later es : List (ℕ × Place)) (y : Waiting) : Type 0 where
  pub put : all_waiting more now es ≡ all_waiting keys flush later ++ y ∷ []
  pub lists : AreLists more now es y.bio

lists_put : (keys more : List ℕ) (flush now : Bool) (later es : List (ℕ × Place)) (last : ℕ) (y : Waiting)
    → AreLists keys flush later last → y.bio < 2 ^ 64 → are_below y.bio (all_waiting keys flush later) ≡ true
    → all_waiting more now es ≡ all_waiting keys flush later ++ y ∷ []
    → joined (joins (all_waiting keys flush later) y.flush) (listed flush keys) y ≡ listed now more
    → Put keys more flush now later es y
lists_put keys more flush now later es last y are small below put next =
    let ws = all_waiting keys flush later in
    record {
      put = put;
      lists = record {
        rises = subst (Rises 0) (sym put) (rise_joined 0 ws y are.rises (omega arith) small below);
        next = ap candidates put ∙ candidates_joined ws y ∙ ap (λ xs. joined (joins ws y.flush) xs y) are.next
            ∙ next;
        below = ap (are_below (y.bio + 1)) put
            ∙ below_joined (y.bio + 1) ws y (below_wider y.bio (y.bio + 1) ws (omega arith) below) (omega arith);
      };
    }

-- one that may be taken next
pub put_next : (keys : List ℕ) (flush : Bool) (later : List (ℕ × Place)) (last : ℕ) (y : Waiting)
    → AreLists keys flush later last → y.bio < 2 ^ 64 → are_below y.bio (all_waiting keys flush later) ≡ true
    → joins (all_waiting keys flush later) y.flush ≡ true
    → Put keys (with_key (key_of y) keys) flush y.flush later later y
put_next keys flush (e ∷ later) last y are small below is_next =
    search (rules, joins_later keys flush (e ∷ later) last y.flush are)
put_next keys flush [] last y are small below is_next =
    lists_put keys (with_key (key_of y) keys) flush y.flush [] [] last y are small below put
    (ap (λ (b : Bool). joined b (listed flush keys) y) is_next ∙ sym more)
  where
    -- both are FLUSHes, or neither is, or nothing waits
    same : (ks : List ℕ) → joins (all_waiting ks flush []) y.flush ≡ true → listed y.flush ks ≡ listed flush ks
    same [] is = refl
    same (k ∷ ks) is = by flush y.flush (joins_front (k ∷ ks) flush [] y.flush refl refl ∙ is)
      where
        by : (a b : Bool) → not (a || b) ≡ true → listed b (k ∷ ks) ≡ listed a (k ∷ ks)
        by true b e = absurd (let bad : ⊥ = cc in bad)
        by false true e = absurd (let bad : ⊥ = cc in bad)
        by false false e = refl

    number : key_of y % 2 ^ 64 ≡ y.bio
    number = mod-mul-add y.first (2 ^ 64) y.bio small

    under : are_below (key_of y % 2 ^ 64) (listed y.flush keys) ≡ true
    under = search (rules, ap (are_below y.bio) (same keys is_next ∙ sym (append-nil (listed flush keys))))

    more : listed y.flush (with_key (key_of y) keys) ≡ listed flush keys ++ y ∷ []
    more =
        listed_more y.flush (key_of y) keys under
        ∙ ap (λ (x : Waiting). listed y.flush keys ++ x ∷ []) (at_own y small)
        ∙ ap (λ (xs : List Waiting). xs ++ y ∷ []) (same keys is_next)

    put : all_waiting (with_key (key_of y) keys) y.flush [] ≡ all_waiting keys flush [] ++ y ∷ []
    put = search (rules, more)

-- one that comes behind
pub put_later : (keys : List ℕ) (flush : Bool) (later es : List (ℕ × Place)) (last : ℕ) (y : Waiting)
    → AreLists keys flush later last → y.bio < 2 ^ 64 → are_below y.bio (all_waiting keys flush later) ≡ true
    → joins (all_waiting keys flush later) y.flush ≡ false → waiting_in es ≡ waiting_in later ++ y ∷ []
    → Put keys keys flush flush later es y
put_later keys flush later es last y are small below not_next is =
    lists_put keys keys flush flush later es last y are small below
    (ap (λ (xs : List Waiting). listed flush keys ++ xs) is
    ∙ sym (append_assoc (listed flush keys) (waiting_in later) (y ∷ [])))
    (ap (λ (b : Bool). joined b (listed flush keys) y) not_next)

-- One that came behind may be taken next

-- the first moves
pub moved_on : (keys : List ℕ) (e : ℕ × Place) (es : List (ℕ × Place)) → Rises 0 (all_waiting keys false (e ∷ es))
    → e.1.flush ≡ false
    → all_waiting (with_key (e.1.first * 2 ^ 64 + e.0) keys) false es ≡ all_waiting keys false (e ∷ es)
moved_on keys e es rise still =
    search (
      rules,
      listed_more false,
      append_assoc (listed false keys),
      rises_back 0 (listed false keys) (waiting_in (e ∷ es)) rise,
      at_own,
      mod-mul-add e.1.first (2 ^ 64) e.0,
      front_below 0 (listed false keys),
      rise,
    )

-- where some have keys and what comes behind begins with a FLUSH, these may be taken next
pub keys_next : (keys : List ℕ) (later : List (ℕ × Place)) → is_none_of keys ≡ false
    → before_flush (waiting_in later) ≡ [] → candidates (all_waiting keys false later) ≡ listed false keys
keys_next keys later some end =
    open_next (listed false keys) (waiting_in later) (none_listed false keys ∙ some) (listed_open keys) end

-- One less

-- where none is left there is no key
no_keys : (keys : List ℕ) → is_none_of keys ≡ true → keys ≡ []
no_keys [] none = refl
no_keys (k ∷ ks) none = absurd (let bad : ⊥ = cc in bad)

-- a key that was there was taken
module _ (keys new : List ℕ) (flush : Bool) (later : List (ℕ × Place)) (last bio first : ℕ)
    (are : AreLists keys flush later last) (small : bio < 2 ^ 64) {n : ℕ} (key : n ≡ first * 2 ^ 64 + bio)
    (took : keys ≡ with_key n new) where
  number : n % 2 ^ 64 ≡ bio
  number = ap (λ (k : ℕ). k % 2 ^ 64) key ∙ mod-mul-add first (2 ^ 64) bio small

  rise : Rises 0 (listed flush keys)
  rise = rises_front 0 (listed flush keys) (waiting_in later) are.rises

  again : Rises 0 (listed flush (with_key n new))
  again = subst (λ (ks : List ℕ). Rises 0 (listed flush ks)) took rise

  has : has_bio bio (listed flush keys) ≡ true
  has =
      ap (λ (ks : List ℕ). has_bio bio (listed flush ks)) took
      ∙ ap (λ (m : ℕ). has_bio m (listed flush (with_key n new))) (sym number) ∙ among_listed flush n 0 new again

  less : listed flush new ≡ without bio (listed flush keys)
  less =
      listed_less flush n 0 new again
      ∙ ap (λ (m : ℕ). without m (listed flush (with_key n new))) number
      ∙ ap (λ (ks : List ℕ). without bio (listed flush ks)) (sym took)

  -- the others wait
  pub take_waits : all_waiting new flush later ≡ without bio (all_waiting keys flush later)
  take_waits =
      ap (λ (xs : List Waiting). xs ++ waiting_in later) less
      ∙ ap (λ (xs : List Waiting). without bio (listed flush keys) ++ xs)
      (sym (without_behind bio 0 (listed flush keys) (waiting_in later) are.rises has))
      ∙ sym (filter-append (λ (x : Waiting). not (x.bio == bio)) (listed flush keys) (waiting_in later))

  -- their numbers rise
  take_rises : Rises 0 (all_waiting new flush later)
  take_rises = subst (Rises 0) (sym take_waits) (without_rises bio 0 (all_waiting keys flush later) are.rises)

  -- where some are left that may be taken next, the lists are kept
  pub take_lists : is_none_of new ≡ false → AreLists new flush later last
  take_lists some = record {
    rises = take_rises;
    next = ap candidates take_waits
        ∙ one_less bio 0 (all_waiting keys flush later) are.rises
        (ap (has_bio bio) are.next ∙ has)
        (ap (λ (xs : List Waiting). is_none_of (without bio xs)) are.next
        ∙ sym (ap is_none_of less) ∙ none_listed flush new ∙ some)
        ∙ ap (without bio) are.next ∙ sym less;
    below = ap (are_below (last + 1)) take_waits
        ∙ below_without (last + 1) bio (all_waiting keys flush later) are.below;
  }

  -- where no key is left the later ones rise, and are all that waits
  module _ (none : is_none_of new ≡ true) where
    pub rest_rises : Rises 0 (all_waiting [] flush later)
    rest_rises = subst (λ (ks : List ℕ). Rises 0 (all_waiting ks flush later)) (no_keys new none) take_rises

    pub rest_waits : all_waiting [] flush later ≡ without bio (all_waiting keys flush later)
    rest_waits = sym (ap (λ (ks : List ℕ). all_waiting ks flush later) (no_keys new none)) ∙ take_waits

-- Whether all have smaller numbers

-- where the last has
pub last_below : (keys : List ℕ) (flush : Bool) (later : List (ℕ × Place)) (last bio : ℕ)
    → AreLists keys flush later last
    → last < bio → true ≡ are_below bio (all_waiting keys flush later)
last_below keys flush later last bio are less =
    sym (below_wider (last + 1) bio (all_waiting keys flush later) (omega (arith, less)) are.below)

-- by both lists
pub both_below : (keys : List ℕ) (flush : Bool) (later : List (ℕ × Place)) (bio : ℕ)
    → are_below bio (all_waiting keys flush later)
    ≡ (list_all (λ k. nat_lt (k % 2 ^ 64) bio) keys && are_below bio (waiting_in later))
both_below keys flush later bio =
    list_all-append (λ x. nat_lt x.bio bio) (listed flush keys) (waiting_in later)
    ∙ ap (λ (c : Bool). c && are_below bio (waiting_in later)) (listed_below flush bio keys)

-- Which is next

module _ (keys : List ℕ) (flush : Bool) (later : List (ℕ × Place)) (last : ℕ) (are : AreLists keys flush later last)
    (head : ℕ) where
  -- what may be taken next has the keys
  next_rises : Rises 0 (candidates (all_waiting keys flush later))
  next_rises = search (rules, rises_front 0 (listed flush keys) (waiting_in later) are.rises)

  next_has : HasKeys keys (candidates (all_waiting keys flush later))
  next_has = subst (HasKeys keys) (sym are.next) (listed_keys flush keys)

  -- the one with the least key that isn't behind the head
  pub kept_ahead : (k : ℕ) → IsNextKey keys (head * 2 ^ 64) (Some k)
      → Some (k % 2 ^ 64) ≡ option_map (λ x. x.bio) (next_of head (candidates (all_waiting keys flush later)))
  kept_ahead k first =
      sym (next_ahead keys head 0 (candidates (all_waiting keys flush later)) next_rises next_has k first)

  -- or else the one with the least of all
  pub kept_least : (o : Option ℕ) → IsNextKey keys (head * 2 ^ 64) None → IsNextKey keys 0 o
      → option_map (λ k. k % 2 ^ 64) o
      ≡ option_map (λ x. x.bio) (next_of head (candidates (all_waiting keys flush later)))
  kept_least o none first =
      sym (next_least keys head 0 (candidates (all_waiting keys flush later)) next_rises next_has o none first)
