-- What may be taken next, as a bio more waits and as one is taken.
use Rattle.std.specs.Prelude.{◌≡◌, ℕ, ◌+◌, ◌^◌, ◌<◌, ◌≤◌, ◌==◌, Bool, true, false, not, ◌&&◌, List, [], ◌∷◌, ◌++◌, if◌then◌else◌, ◌*◌, ◌%◌, nat_le, ◌||◌, Option, Some, None, ◌/◌, nat_lt}
use Rattle.std.specs.List.{list_any, AllByRecursion, list_all}
use Rattle.std.specs.Option.{option_map, option_or}
use Rattle.std.proofs.Common.{inl, inr, refl, sym, ◌∙◌, ap, subst, arith, rules}
use Rattle.std.proofs.lemmas.Bool.{cases_Bool, eqb-true, ne_eqb, eq-eqb, leb-true, leb-false, le-leb, and_parts, or_parts, lt-ltb, ltb-true}
use Rattle.std.proofs.lemmas.Nat.{mod-mul-add, div-add-mod', div-mul-add}
use Rattle.std.proofs.lemmas.Bool.Decides.{nat_tests}
use Rattle.geo_headline.specs.Sweep.{Waiting, before_flush, candidates, least_place, ahead_of, next_of}
use Rattle.geo_elev.specs.Front.{IsNextKey, is_none_of, with_key}
use Rattle.geo_elev.specs.Lists.{Rises, has_no_flush, joins, without, HasKeys, has_key, key_of, are_below, at_key, listed, with_waiting}

-- whether the bio is among them
abbrev pub has_bio : ℕ → List Waiting → Bool
has_bio bio xs = list_any (λ x. x.bio == bio) xs

-- what stands before the first FLUSH, by whether that is the first of all
pub front_at : (b : Bool) (x : Waiting) (xs : List Waiting) → x.flush ≡ b
    → before_flush (x ∷ xs) ≡ (if b then [] else x ∷ before_flush xs)
front_at b x xs e = ap (λ (c : Bool). if c then [] else x ∷ before_flush xs) e

-- what may be taken next, by whether a FLUSH stands in front
pub next_at : (b : Bool) (x : Waiting) (xs : List Waiting) → x.flush ≡ b
    → candidates (x ∷ xs) ≡ (if b then x ∷ [] else x ∷ before_flush xs)
next_at b x xs e = ap (λ (c : Bool). if c then x ∷ [] else x ∷ before_flush xs) e

-- Numbers that rise

-- from a lower one on too
pub wider : (low high : ℕ) (xs : List Waiting) → Rises high xs → low ≤ high → Rises low xs
wider low high [] rise most = tt
wider low high (x ∷ xs) rise most = (omega (arith, rise.0, most), rise.1, rise.2)

-- of what stands before the first FLUSH
pub front_rises : (low : ℕ) (xs : List Waiting) → Rises low xs → Rises low (before_flush xs)
front_rises low [] rise = tt
front_rises low (x ∷ xs) rise = search (rules, front_rises (x.bio + 1) xs rise.2)

-- none has a smaller number
pub absent : (bio low : ℕ) (xs : List Waiting) → Rises low xs → bio < low → has_bio bio xs ≡ false
absent bio low [] rise below = refl
absent bio low (x ∷ xs) rise below = search (rules, absent bio (x.bio + 1) xs rise.2 (omega (arith, rise.0, below)))

-- so none goes without it
pub absent_stays : (bio low : ℕ) (xs : List Waiting) → Rises low xs → bio < low → without bio xs ≡ xs
absent_stays bio low [] rise below = refl
absent_stays bio low (x ∷ xs) rise below =
    search (rules, ap (λ ys. x ∷ ys) (absent_stays bio (x.bio + 1) xs rise.2 (omega (arith, rise.0, below))))

-- One more

-- where no FLUSH waits, one more that is none stands before the first one
front_open : (xs : List Waiting) (y : Waiting) → has_no_flush xs ≡ true → y.flush ≡ false
    → before_flush (xs ++ y ∷ []) ≡ before_flush xs ++ y ∷ []
front_open [] y all f = rw f refl
front_open (x ∷ xs) y all f = search (rules, front_open xs y)

-- else it doesn't
front_shut : (xs : List Waiting) (y : Waiting) → (has_no_flush xs && not y.flush) ≡ false
    → before_flush (xs ++ y ∷ []) ≡ before_flush xs
front_shut [] y none = search rules
front_shut (x ∷ xs) y none = search (rules, front_shut xs y)

-- those with one more, if it joins them
abbrev pub joined : Bool → List Waiting → Waiting → List Waiting
joined b xs y = if b then xs ++ y ∷ [] else xs

-- by whether the first is a FLUSH
first_joins : (b c : Bool) (x y : Waiting) (xs : List Waiting) → x.flush ≡ b
    → (has_no_flush (x ∷ xs) && not y.flush) ≡ c
    → candidates (x ∷ xs ++ y ∷ []) ≡ joined c (candidates (x ∷ xs)) y
first_joins true true x y xs e f = absurd (let no : false ≡ true = rw e at f in let bad : ⊥ = cc in bad)
first_joins true false x y xs e f = next_at true x (xs ++ y ∷ []) e ∙ sym (next_at true x xs e)
first_joins false true x y xs e f = search (rules, front_open xs y)
first_joins false false x y xs e f = search (rules, front_shut xs y (rw e at f))

-- what may be taken next, with one more at the end
pub candidates_joined : (xs : List Waiting) (y : Waiting)
    → candidates (xs ++ y ∷ []) ≡ joined (joins xs y.flush) (candidates xs) y
candidates_joined [] y = elim (cases_Bool y.flush) [ inl e ↦ rw e refl | inr e ↦ rw e refl ]
candidates_joined (x ∷ xs) y = first_joins x.flush (has_no_flush (x ∷ xs) && not y.flush) x y xs refl refl

-- where some stand before the first FLUSH, these may be taken next
pub front_some : (xs : List Waiting) → is_none_of (before_flush xs) ≡ false → candidates xs ≡ before_flush xs
front_some [] some = refl
front_some (x ∷ xs) some = search rules

-- One less

module _ (bio : ℕ) where
  -- the first is the bio
  pub gone : (x : Waiting) (xs : List Waiting) → (x.bio == bio) ≡ true → without bio (x ∷ xs) ≡ without bio xs
  gone x xs f = ap (λ (c : Bool). if not c then x ∷ without bio xs else without bio xs) f

  -- it is another
  pub kept : (x : Waiting) (xs : List Waiting) → (x.bio == bio) ≡ false → without bio (x ∷ xs) ≡ x ∷ without bio xs
  kept x xs f = ap (λ (c : Bool). if not c then x ∷ without bio xs else without bio xs) f

  -- by whether the first is a FLUSH, and the one that is taken
  one_before : (b c : Bool) (x : Waiting) (xs : List Waiting) → x.flush ≡ b → (x.bio == bio) ≡ c
      → Rises (x.bio + 1) xs → has_bio bio (before_flush (x ∷ xs)) ≡ true
      → (has_bio bio (before_flush xs) ≡ true → before_flush (without bio xs) ≡ without bio (before_flush xs))
      → before_flush (without bio (x ∷ xs)) ≡ without bio (before_flush (x ∷ xs))
  one_before true c x xs e f rise has rest = search rules
  one_before false true x xs e f rise has rest =
      let number : bio < x.bio + 1 = let same = eqb-true x.bio bio f in omega (arith, same) in
      let all : without bio xs ≡ xs = absent_stays bio (x.bio + 1) xs rise number in
      let some : without bio (before_flush xs) ≡ before_flush xs =
      absent_stays bio (x.bio + 1) (before_flush xs) (front_rises (x.bio + 1) xs rise) number in
      ap (λ ys. before_flush ys) (gone x xs f ∙ all)
      ∙ sym (ap (λ ys. without bio ys) (front_at false x xs e) ∙ gone x (before_flush xs) f ∙ some)
  one_before false false x xs e f rise has rest = search rules

  -- so in the whole list
  before_taken : (low : ℕ) (xs : List Waiting) → Rises low xs → has_bio bio (before_flush xs) ≡ true
      → before_flush (without bio xs) ≡ without bio (before_flush xs)
  before_taken low [] rise has = absurd (let bad : ⊥ = cc in bad)
  before_taken low (x ∷ xs) rise has =
      one_before x.flush (x.bio == bio) x xs refl refl rise.2 has (before_taken (x.bio + 1) xs rise.2)

  -- by whether the first is a FLUSH, and the one that is taken
  one_taken : (b c : Bool) (x : Waiting) (xs : List Waiting) → x.flush ≡ b → (x.bio == bio) ≡ c
      → Rises (x.bio + 1) xs → has_bio bio (candidates (x ∷ xs)) ≡ true
      → is_none_of (without bio (candidates (x ∷ xs))) ≡ false
      → candidates (without bio (x ∷ xs)) ≡ without bio (candidates (x ∷ xs))
  one_taken true true x xs e f rise has some = search rules
  one_taken true false x xs e f rise has some = search rules
  one_taken false true x xs e f rise has some =
      search (
        rules,
        absent_stays bio (x.bio + 1) xs rise,
        absent_stays bio (x.bio + 1) (before_flush xs) (front_rises (x.bio + 1) xs rise),
        front_rises (x.bio + 1) xs rise,
      )
  one_taken false false x xs e f rise has some = search (rules, before_taken (x.bio + 1) xs rise (rw (e, f) at has))

  -- what may be taken next without a bio, of which others are left
  pub one_less : (low : ℕ) (xs : List Waiting) → Rises low xs → has_bio bio (candidates xs) ≡ true
      → is_none_of (without bio (candidates xs)) ≡ false
      → candidates (without bio xs) ≡ without bio (candidates xs)
  one_less low [] rise has some = absurd (let bad : ⊥ = cc in bad)
  one_less low (x ∷ xs) rise has some = one_taken x.flush (x.bio == bio) x xs refl refl rise.2 has some

  -- the numbers of the others rise
  pub without_rises : (low : ℕ) (xs : List Waiting) → Rises low xs → Rises low (without bio xs)
  without_rises low [] rise = tt
  without_rises low (x ∷ xs) rise =
      search (rules, without_rises (x.bio + 1) xs rise.2, wider low (x.bio + 1) (without bio xs))

-- The keys of what may be taken next, and which of them is next.

-- Keys

-- the smaller key has no later place
key_less : (x y : Waiting) → x.bio < 2 ^ 64 → y.bio < 2 ^ 64 → key_of x ≤ key_of y → x.first ≤ y.first
key_less x y small_x small_y less = omega (arith, small_x, small_y, less)

-- equal keys are of one bio
key_same : (x y : Waiting) → x.bio < 2 ^ 64 → y.bio < 2 ^ 64 → key_of x ≡ key_of y → x.bio ≡ y.bio
key_same x y small_x small_y same = search rules

-- true behind
or_true : (b : Bool) → (b || true) ≡ true
or_true true = refl
or_true false = refl

-- what holds of each key that some have holds of their keys
all_keys : (P : ℕ → Type 0) (xs : List Waiting) → ((key : ℕ) → has_key key xs ≡ true → P key)
    → AllByRecursion (λ (z : Waiting). P (key_of z)) xs
all_keys P [] f = tt
all_keys P (x ∷ xs) f = search (rules, all_keys P xs (λ key has. f key (rw has (or_true (key_of x == key)))))

-- The next of those that are ahead

module _ (head k : ℕ) where
  -- those behind the key aren't before its place
  not_before : (x : Waiting) (low : ℕ) (xs : List Waiting) → x.bio < 2 ^ 64 → key_of x ≡ k → Rises low xs
      → AllByRecursion (λ (z : Waiting). head ≤ z.first → k ≤ key_of z) xs
      → list_all (λ y. nat_le x.first y.first) (ahead_of head xs) ≡ true
  not_before x low [] small is rise all = refl
  not_before x low (z ∷ zs) small is rise all = search (rules, not_before x (z.bio + 1) zs small is rise.2 all.1)

  -- one with the key is before a greater one that has a smaller number
  is_before : (x : Waiting) (low : ℕ) (xs : List Waiting) → x.bio < low → x.bio < 2 ^ 64 → k < key_of x
      → head * 2 ^ 64 ≤ k → Rises low xs → has_key k xs ≡ true
      → list_all (λ y. nat_le x.first y.first) (ahead_of head xs) ≡ false
  is_before x low [] below small less ahead rise has = absurd (let bad : ⊥ = cc in bad)
  is_before x low (z ∷ zs) below small less ahead rise has =
      search (rules, is_before x (z.bio + 1) zs (omega (arith, below, rise.0)) small less ahead rise.2)

  -- of those ahead, the one with the least key is the first of those with the smallest place
  pub least_of : (low : ℕ) (xs : List Waiting) → Rises low xs → head * 2 ^ 64 ≤ k
      → AllByRecursion (λ (z : Waiting). head ≤ z.first → k ≤ key_of z) xs → has_key k xs ≡ true
      → option_map (λ x. x.bio) (least_place (ahead_of head xs)) ≡ Some (k % 2 ^ 64)
  least_of low [] rise ahead all has = absurd (let bad : ⊥ = cc in bad)
  least_of low (x ∷ xs) rise ahead all has =
      search (
        rules,
        least_of (x.bio + 1) xs rise.2 ahead all.1,
        eqb-true (key_of x) k,
        not_before x (x.bio + 1) xs rise.1,
        mod-mul-add x.first (2 ^ 64) x.bio rise.1,
        Some x,
        leb-true head x.first,
        eq-eqb (key_of x) k,
        is_before x (x.bio + 1) xs (omega arith) rise.1,
        leb-false head x.first,
      )

-- where no key is high, none is ahead
none_ahead : (head : ℕ) (xs : List Waiting)
    → AllByRecursion (λ (z : Waiting). head * 2 ^ 64 ≤ key_of z → ⊥) xs → ahead_of head xs ≡ []
none_ahead head [] none = refl
none_ahead head (x ∷ xs) none = search (rules, none_ahead head xs none.1)

-- all are ahead of 0
all_ahead : (xs : List Waiting) → ahead_of 0 xs ≡ xs
all_ahead [] = refl
all_ahead (x ∷ xs) = rw (le-leb 0 x.first (omega arith)) (ap (λ ys. x ∷ ys) (all_ahead xs))

-- of what is ahead of a head, by the least key from there on
ahead_is : (keys : List ℕ) (head low : ℕ) (xs : List Waiting) → Rises low xs → HasKeys keys xs → (o : Option ℕ)
    → IsNextKey keys (head * 2 ^ 64) o
    → option_map (λ x. x.bio) (least_place (ahead_of head xs)) ≡ option_map (λ k. k % 2 ^ 64) o
ahead_is keys head low xs rise has None none =
    ap (λ ys. option_map (λ x. x.bio) (least_place ys))
    (none_ahead head xs (all_keys (λ key. head * 2 ^ 64 ≤ key → ⊥) xs (λ key here high.
    let no : false ≡ true = sym (none key high) ∙ has key ∙ here in let bad : ⊥ = cc in bad)))
ahead_is keys head low xs rise has (Some k) (here, high, least) =
    least_of head k low xs rise high
    (weaken xs (all_keys (λ key. head * 2 ^ 64 ≤ key → k ≤ key) xs (λ key one more. least key (has key ∙ one) more)))
    (sym (has k) ∙ here)
  where
    weaken : (zs : List Waiting) → AllByRecursion (λ (z : Waiting). head * 2 ^ 64 ≤ key_of z → k ≤ key_of z) zs
        → AllByRecursion (λ (z : Waiting). head ≤ z.first → k ≤ key_of z) zs
    weaken [] all = tt
    weaken (z ∷ zs) all = ((λ more. all.0 (omega (arith, more))), weaken zs all.1)

-- where one is first of those ahead, it is next
some_first : (a b : Option Waiting) (k : ℕ) → option_map (λ x. x.bio) a ≡ Some k
    → option_map (λ x. x.bio) (option_or a b) ≡ Some k
some_first None b k is = absurd (let bad : ⊥ = cc in bad)
some_first (Some x) b k is = is

-- where none is, the first of all is next
none_first : (a b : Option Waiting) → option_map (λ x. x.bio) a ≡ None → option_or a b ≡ b
none_first None b is = refl
none_first (Some x) b is = absurd (let bad : ⊥ = cc in bad)

module _ (keys : List ℕ) (head low : ℕ) (xs : List Waiting) (rise : Rises low xs) (has : HasKeys keys xs) where
  -- the next is the one with the least key that isn't behind the head
  pub next_ahead : (k : ℕ) → IsNextKey keys (head * 2 ^ 64) (Some k)
      → option_map (λ x. x.bio) (next_of head xs) ≡ Some (k % 2 ^ 64)
  next_ahead k first =
      some_first (least_place (ahead_of head xs)) (least_place xs) (k % 2 ^ 64)
      (ahead_is keys head low xs rise has (Some k) first)

  -- or else the one with the least of all
  pub next_least : (o : Option ℕ) → IsNextKey keys (head * 2 ^ 64) None → IsNextKey keys 0 o
      → option_map (λ x. x.bio) (next_of head xs) ≡ option_map (λ k. k % 2 ^ 64) o
  next_least o none first =
      ap (option_map (λ (x : Waiting). x.bio))
      (none_first (least_place (ahead_of head xs)) (least_place xs) (ahead_is keys head low xs rise has None none))
      ∙ ap (λ ys. option_map (λ x. x.bio) (least_place ys)) (sym (all_ahead xs))
      ∙ ahead_is keys 0 low xs rise has o first

-- What may be taken next, as it is listed by its keys: one more, and one less.

-- Keys

-- what waits is found again by its key
pub at_own : (x : Waiting) → x.bio < 2 ^ 64 → at_key x.flush (key_of x) ≡ x
at_own x small =
    ap (λ (n : ℕ). record { bio = n; flush = x.flush; first = key_of x / 2 ^ 64 })
    (mod-mul-add x.first (2 ^ 64) x.bio small)
    ∙ ap (λ (n : ℕ). record { bio = x.bio; flush = x.flush; first = n }) (div-mul-add x.first (2 ^ 64) x.bio small)

-- and has it
pub key_at : (flush : Bool) (key : ℕ) → key_of (at_key flush key) ≡ key
key_at flush key = div-add-mod' key (2 ^ 64)

-- With one more

-- before one with a greater number
with_before : (x y : Waiting) (ys : List Waiting) → nat_lt x.bio y.bio ≡ true → with_waiting x (y ∷ ys) ≡ x ∷ y ∷ ys
with_before x y ys e = ap (λ (c : Bool). if c then x ∷ y ∷ ys else y ∷ with_waiting x ys) e

-- behind another
with_behind : (x y : Waiting) (ys : List Waiting) → nat_lt x.bio y.bio ≡ false → with_waiting x (y ∷ ys) ≡ y
    ∷ with_waiting x ys
with_behind x y ys e = ap (λ (c : Bool). if c then x ∷ y ∷ ys else y ∷ with_waiting x ys) e

module _ (p : Waiting → Bool) (x : Waiting) where
  -- whether all pass
  pub all_with : (ys : List Waiting) → list_all p (with_waiting x ys) ≡ (p x && list_all p ys)
  all_with [] = refl
  all_with (y ∷ ys) = search (rules, ap (λ (c : Bool). p y && c) (all_with ys))

  -- whether one does
  any_with : (ys : List Waiting) → list_any p (with_waiting x ys) ≡ (p x || list_any p ys)
  any_with [] = refl
  any_with (y ∷ ys) = search (rules, ap (λ (c : Bool). p y || c) (any_with ys))

-- one with a greater number than all comes last
goes_last : (x : Waiting) (ys : List Waiting) → are_below x.bio ys ≡ true → with_waiting x ys ≡ ys ++ x ∷ []
goes_last x [] below = refl
goes_last x (y ∷ ys) below = search (rules, goes_last x ys)

-- one with a smaller number comes before the last
goes_before : (x z : Waiting) (ys : List Waiting) → x.bio < z.bio → with_waiting x (ys ++ z ∷ []) ≡ with_waiting x ys
    ++ z ∷ []
goes_before x z [] less = with_before x z [] (lt-ltb x.bio z.bio less)
goes_before x z (y ∷ ys) less = search (rules, ap (λ zs. y ∷ zs) (goes_before x z ys less))

-- one with a smaller number than all comes first
goes_first : (x : Waiting) (low : ℕ) (ys : List Waiting) → Rises low ys → x.bio < low → with_waiting x ys ≡ x ∷ ys
goes_first x low [] rise less = refl
goes_first x low (y ∷ ys) rise less = with_before x y ys (lt-ltb x.bio y.bio (omega (arith, less, rise.0)))

-- where the numbers rise, so do those of the others
pub rises_with : (low : ℕ) (x : Waiting) (ys : List Waiting) → Rises low (with_waiting x ys) → Rises low ys
rises_with low x [] rise = tt
rises_with low x (y ∷ ys) rise = search (rules, rises_with (y.bio + 1) x ys)

-- and its own is not below
above_with : (low : ℕ) (x : Waiting) (ys : List Waiting) → Rises low (with_waiting x ys) → low ≤ x.bio
above_with low x [] rise = rise.0
above_with low x (y ∷ ys) rise = search rules

-- the others are other bios
none_same : (low : ℕ) (x : Waiting) (ys : List Waiting) → Rises low (with_waiting x ys) → has_bio x.bio ys ≡ false
none_same low x [] rise = refl
none_same low x (y ∷ ys) rise =
    search (
      rules,
      absent x.bio (x.bio + 1) (y ∷ ys),
      with_behind x y ys,
      above_with (y.bio + 1) x ys,
      ne_eqb y.bio x.bio,
      none_same (y.bio + 1) x ys,
    )

-- without it the others are left
without_with : (low : ℕ) (x : Waiting) (ys : List Waiting) → Rises low (with_waiting x ys)
    → without x.bio (with_waiting x ys) ≡ ys
without_with low x [] rise = gone x.bio x [] (eq-eqb x.bio x.bio refl)
without_with low x (y ∷ ys) rise =
    search (
      rules,
      absent_stays x.bio (x.bio + 1) (y ∷ ys),
      with_behind x y ys,
      above_with (y.bio + 1) x ys,
      kept x.bio y (with_waiting x ys),
      ne_eqb y.bio x.bio,
      without_with (y.bio + 1) x ys,
    )

-- of two that are other bios it is the same which comes first
with_both : (x y : Waiting) (zs : List Waiting) → (x.bio == y.bio) ≡ false
    → with_waiting x (with_waiting y zs) ≡ with_waiting y (with_waiting x zs)
with_both x y [] other = grind (arith, nat_tests, other)
with_both x y (z ∷ zs) other = grind (arith, nat_tests, other, with_both x y zs other)

-- Lists by keys

module _ (flush : Bool) where
  -- whether all have smaller numbers
  pub listed_below : (b : ℕ) (keys : List ℕ)
      → are_below b (listed flush keys) ≡ list_all (λ k. nat_lt (k % 2 ^ 64) b) keys
  listed_below b [] = refl
  listed_below b (k ∷ ks) =
      all_with (λ y. nat_lt y.bio b) (at_key flush k) (listed flush ks)
      ∙ ap (λ (c : Bool). nat_lt (k % 2 ^ 64) b && c) (listed_below b ks)

  -- they have the keys
  pub listed_keys : (keys : List ℕ) → HasKeys keys (listed flush keys)
  listed_keys [] key = refl
  listed_keys (k ∷ ks) key =
      search (rules, listed_keys ks key, any_with (λ y. key_of y == key) (at_key flush k) (listed flush ks))

  -- whether there are none
  pub none_listed : (keys : List ℕ) → is_none_of (listed flush keys) ≡ is_none_of keys
  none_listed [] = refl
  none_listed (k ∷ ks) = some_with (at_key flush k) (listed flush ks)
    where
      some_with : (x : Waiting) (ys : List Waiting) → is_none_of (with_waiting x ys) ≡ false
      some_with x [] = refl
      some_with x (y ∷ ys) = search rules

  -- one more, with a greater number than all
  pub listed_more : (k : ℕ) (keys : List ℕ) → are_below (k % 2 ^ 64) (listed flush keys) ≡ true
      → listed flush (with_key k keys) ≡ listed flush keys ++ at_key flush k ∷ []
  listed_more k [] below = refl
  listed_more k (j ∷ js) below =
      search (
        rules,
        listed_more k js,
        and_parts (nat_lt (j % 2 ^ 64) (k % 2 ^ 64)) (are_below (k % 2 ^ 64) (listed flush js))
            (sym (all_with (λ y. nat_lt y.bio (k % 2 ^ 64)) (at_key flush j) (listed flush js)) ∙ below),
        all_with (λ y. nat_lt y.bio (k % 2 ^ 64)) (at_key flush j) (listed flush js),
        ltb-true (j % 2 ^ 64) (k % 2 ^ 64),
        goes_last (at_key flush k) (listed flush (j ∷ js)) below,
        goes_before (at_key flush j) (at_key flush k) (listed flush js),
      )

  module _ (k low : ℕ) where
    -- one more stands by its number
    listed_with : (keys : List ℕ) → Rises low (listed flush (with_key k keys))
        → listed flush (with_key k keys) ≡ with_waiting (at_key flush k) (listed flush keys)
    listed_with [] rise = refl
    listed_with (j ∷ js) rise = by (nat_le k j) refl (listed_with js)
      where
        y : Waiting
        y = at_key flush j

        all : Bool → List ℕ
        all c = if c then k ∷ j ∷ js else j ∷ with_key k js

        by : (b : Bool) → nat_le k j ≡ b
            → (Rises low (listed flush (with_key k js))
            → listed flush (with_key k js) ≡ with_waiting (at_key flush k) (listed flush js))
            → listed flush (with_key k (j ∷ js)) ≡ with_waiting (at_key flush k) (listed flush (j ∷ js))
        by true e rest = ap (λ (c : Bool). listed flush (all c)) e
        by false e rest =
            let up : Rises low (with_waiting y (listed flush (with_key k js))) =
            subst (λ (c : Bool). Rises low (listed flush (all c))) e rise in
            let is = rest (rises_with low y (listed flush (with_key k js)) up) in
            let other : (k % 2 ^ 64 == j % 2 ^ 64) ≡ false =
            (or_parts (k % 2 ^ 64 == j % 2 ^ 64) (has_bio (j % 2 ^ 64) (listed flush js))
            (sym (ap (has_bio (j % 2 ^ 64)) is
            ∙ any_with (λ x. x.bio == j % 2 ^ 64) (at_key flush k) (listed flush js))
            ∙ none_same low y (listed flush (with_key k js)) up)).0 in
            ap (λ (c : Bool). listed flush (all c)) e ∙ ap (with_waiting y) is
            ∙ sym (with_both (at_key flush k) y (listed flush js) other)

    module _ (keys : List ℕ) (rise : Rises low (listed flush (with_key k keys))) where
      -- it is among them
      pub among_listed : has_bio (k % 2 ^ 64) (listed flush (with_key k keys)) ≡ true
      among_listed =
          ap (has_bio (k % 2 ^ 64)) (listed_with keys rise)
          ∙ any_with (λ x. x.bio == k % 2 ^ 64) (at_key flush k) (listed flush keys)
          ∙ ap (λ (c : Bool). c || has_bio (k % 2 ^ 64) (listed flush keys)) (eq-eqb (k % 2 ^ 64) (k % 2 ^ 64) refl)

      -- without it the others are left
      pub listed_less : listed flush keys ≡ without (k % 2 ^ 64) (listed flush (with_key k keys))
      listed_less =
          sym (ap (without (k % 2 ^ 64)) (listed_with keys rise)
          ∙ without_with low (at_key flush k) (listed flush keys) (subst (Rises low) (listed_with keys rise) rise))

-- no FLUSH is among them
pub listed_open : (keys : List ℕ) → has_no_flush (listed false keys) ≡ true
listed_open [] = refl
listed_open (k ∷ ks) = all_with (λ y. not y.flush) (at_key false k) (listed false ks) ∙ listed_open ks

-- they are FLUSHes, or none is
pub open_listed : (flush : Bool) (k : ℕ) (keys : List ℕ) → has_no_flush (listed flush (k ∷ keys)) ≡ not flush
open_listed true k keys = all_with (λ y. not y.flush) (at_key true k) (listed true keys)
open_listed false k keys = listed_open (k ∷ keys)
