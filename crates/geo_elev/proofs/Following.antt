-- How the heads of disks, and what waits for them, follow one entry of the log.
use Rattle.geo_base.proofs.FindLists.{find-Contains}
use Rattle.geo_base.proofs.MemberLists.{at_contained, Contains-filter, Contains-map}
use Rattle.std.specs.Prelude.{◌≡◌, ◌≢◌, ℕ, zero, suc, ◌+◌, ◌<◌, ◌≤◌, ◌==◌, nat_lt, Bool, true, false, List, [], ◌∷◌, ◌++◌, find, filter, map, Some, None, Ok, slice_get, slice_set}
use Rattle.std.specs.List.{AllByRecursion, range_with_len}
use Rattle.std.proofs.Common.{refl, sym, ◌∙◌, ap, subst, arith, rules}
use Rattle.std.proofs.lemmas.Bool.{eq-eqb, ne_eqb, ltb-true, and_parts}
use Rattle.std.proofs.lemmas.List.Elements.{recursion_from_All}
use Rattle.std.proofs.lemmas.List.Sums.{fold-append}
use Rattle.std.proofs.lemmas.List.Folds.{list_all-append}
use Rattle.geo_model.specs.declared.step.Entry.{Entry}
use Rattle.geo_model.specs.declared.step.Outcome.{Outcome}
use Rattle.geo_model.specs.declared.step.Outcome.TheVariants as outcomes
use Rattle.geo_model.specs.declared.step.Request.{Request}
use Rattle.geo_model.specs.declared.step.Step.TheVariants as steps
use Rattle.geo_model.specs.World.{World, Bio}
use Rattle.geo_model.specs.Step.{step}
use Rattle.geo_model.specs.Log.{after_entry}
use Rattle.geo_model.specs.Fitting.{Firm}
use Rattle.geo_headline.specs.Sweep.{Waiting, waiting_of, is_sent_to, waiting_for, head_after, head_of}
use Rattle.geo_laws_sweep.specs.SweepLaws.{WaitingChanges, OneMore, is_queued, is_asked}
use Rattle.geo_laws_sweep.proofs.WaitingFacts.{steps_change_waiting}
use Rattle.geo_elev.specs.declared.disks.DiskHead.{DiskHead}
use Rattle.geo_elev.specs.Lists.{are_below}
use Rattle.geo_elev.specs.Disks.{ChangesOne, Queues, after_asking}
use Rattle.geo_elev.specs.Heads.{disk_head, disk_heads}

-- Tables by number

module _ {X : Type 0} (f g : ℕ → X) where
  -- where each is the same, all are
  pub all_same : ((j : ℕ) → f j ≡ g j) → (low n : ℕ) → map f (range_with_len low n) ≡ map g (range_with_len low n)
  all_same same low zero = refl
  all_same same low (suc n) = rw (same low, all_same same (low + 1) n) refl

  -- where one is set, and the others are the same
  set_same : (i low n k : ℕ) → k ≡ low + i → ((j : ℕ) → j ≢ k → f j ≡ g j)
      → slice_set (map f (range_with_len low n)) i (g k) ≡ map g (range_with_len low n)
  set_same i low zero k is same = refl
  set_same zero low (suc n) k is same =
      let first : g k ≡ g low = ap g (omega (arith, is)) in
      rw first
      (ap (λ xs. g low ∷ xs) (later n (low + 1) (omega arith)))
    where
      later : (m more : ℕ) → low < more → map f (range_with_len more m) ≡ map g (range_with_len more m)
      later zero more high = refl
      later (suc m) more high = search (rules, later m (more + 1) (omega (arith, high)))
  set_same (suc i) low (suc n) k is same = search (rules, set_same i (low + 1) n k (omega (arith, is)) same)

  -- what stands there
  some_there : (i low n k : ℕ) → k ≡ low + i → (d : X) → slice_get (map f (range_with_len low n)) i ≡ Some d → d ≡ f k
  some_there i low zero k is d here = absurd (let bad : ⊥ = cc in bad)
  some_there zero low (suc n) k is d here =
      let it : f low ≡ d = cc in sym it ∙ ap f (omega (arith, is))
  some_there (suc i) low (suc n) k is d here = some_there i (low + 1) n k (omega (arith, is)) d here

  -- where none does, the others are all
  none_there : (i low n k : ℕ) → k ≡ low + i → ((j : ℕ) → j ≢ k → f j ≡ g j)
      → slice_get (map f (range_with_len low n)) i ≡ None → map f (range_with_len low n) ≡ map g (range_with_len low n)
  none_there i low zero k is same here = refl
  none_there zero low (suc n) k is same here = absurd (let bad : ⊥ = cc in bad)
  none_there (suc i) low (suc n) k is same here =
      rw (same low (λ e. omega (arith, e, is)), none_there i (low + 1) n k (omega (arith, is)) same here) refl

-- one disk changes, and the others are the same
pub change_one : (f g : ℕ → DiskHead) (R : DiskHead → DiskHead → Type 0) (i n : ℕ) → ((j : ℕ) → j ≢ i → f j ≡ g j)
    → ((e : DiskHead) → R (f i) e → e ≡ g i) → (new : List DiskHead)
    → ChangesOne i R (map f (range_with_len 0 n)) new → new ≡ map g (range_with_len 0 n)
change_one f g R i n same gives new changes =
    search (
      rules,
      none_there f g i 0 n i (omega arith) same,
      some_there f g i 0 n i (omega arith),
      g i,
      set_same f g i 0 n i (omega arith) same,
    )

-- What waits behind all

-- none of these has a number that isn't below
none_above : (b : ℕ) (front back : List Waiting) → are_below b (front ++ back) ≡ true
    → AllByRecursion (λ (x : Waiting). b ≤ x.bio) back → back ≡ []
none_above b front [] below above = refl
none_above b front (x ∷ back) below above =
    let parts = and_parts (are_below b front) (are_below b (x ∷ back))
    (sym (list_all-append (λ y. nat_lt y.bio b) front (x ∷ back)) ∙ below) in
    let less = ltb-true x.bio b (and_parts (nat_lt x.bio b) (are_below b back) parts.1).0 in
    absurd (omega (arith, less, above.0))

-- those that have a smaller number aren't it
not_it : (b : ℕ) (x : Waiting) (xs : List Waiting) → are_below b xs ≡ true
    → AllByRecursion (λ (y : Waiting). y.bio ≡ b → y ≡ x) (xs ++ x ∷ [])
not_it b x [] below = ((λ e. refl), tt)
not_it b x (y ∷ ys) below = search (rules, not_it b x ys)

-- what comes behind all, where what waits then has one of its number
comes_behind : (b : ℕ) (before after : List Waiting) (x : Waiting) → OneMore b before after
    → are_below b before ≡ true → x.bio ≡ b
    → ((P : Waiting → Type 0) → AllByRecursion P after → P x) → after ≡ before ++ x ∷ []
comes_behind b before after x more below number here =
    search (
      rules,
      none_above b more.front more.back (subst (λ (xs : List Waiting). are_below b xs ≡ true) more.was below)
          (recursion_from_All (λ (z : Waiting). b ≤ z.bio) more.back more.above),
      not_it b more.one before below,
    )

-- what holds of all that waits holds of a bio that does
pub of_waiting : (w : World) (disk : ℕ) (test : Bio → Bool) (y : Bio) (P : Waiting → Type 0) (xs : List Bio)
    → find test xs ≡ Some y → is_sent_to w disk y ≡ true
    → AllByRecursion P (map (waiting_of w) (filter (is_sent_to w disk) xs)) → P (waiting_of w y)
of_waiting w disk test y P xs found sent all =
    at_contained P (map (waiting_of w) (filter (is_sent_to w disk) xs)) (waiting_of w y) all
    (Contains-map (waiting_of w) (filter (is_sent_to w disk) xs) y
    (Contains-filter (is_sent_to w disk) xs y (find-Contains test xs y found) sent))

-- One entry

module _ (w : World) (firm : Firm w) (log : List Entry) (e : Entry)
    (made : step w e.seat e.step ≡ Ok (after_entry w e, e.outcome)) (n : ℕ) where
  -- the world then
  abbrev v : World
  v = after_entry w e

  -- how what waits changes
  changes : (disk : ℕ) → WaitingChanges disk e.step e.outcome (waiting_for w disk) (waiting_for v disk)
  changes disk = steps_change_waiting w v e.seat disk e.step e.outcome firm made

  -- the head then
  head_then : (disk : ℕ) → head_of (log ++ e ∷ []) disk ≡ head_after disk (head_of log disk) e.outcome
  head_then disk = fold-append (λ head (x : Entry). head_after disk head x.outcome) 0 log (e ∷ [])

  -- a disk that is neither asked nor gets a request
  stays : (o : Outcome) → e.outcome ≡ o → (disk : ℕ) → is_queued disk o ≡ false → is_asked disk o ≡ false
      → head_after disk (head_of log disk) o ≡ head_of log disk
      → disk_head w log disk ≡ disk_head v (log ++ e ∷ []) disk
  stays o is disk queued asked still =
      search (rules, head_then disk, changes disk, ap (is_queued disk) is, ap (is_asked disk) is)

  -- where no disk is
  pub all_stay : (o : Outcome) → e.outcome ≡ o
      → ((disk : ℕ) → (is_queued disk o ≡ false) × (is_asked disk o ≡ false)
      × (head_after disk (head_of log disk) o ≡ head_of log disk))
      → disk_heads w log n ≡ disk_heads v (log ++ e ∷ []) n
  all_stay o is quiet =
      all_same (disk_head w log) (disk_head v (log ++ e ∷ []))
      (λ j. stays o is j (quiet j).0 (quiet j).1 (quiet j).2) 0 n

  -- a disk is asked for a bio
  pub asked_then : (q : Request) (d b : ℕ) → e.outcome ≡ outcomes.Asked q → e.step ≡ steps.Take d b
      → (new : List DiskHead) → ChangesOne q.disk (λ x y. y ≡ after_asking q b x) (disk_heads w log n) new
      → new ≡ disk_heads v (log ++ e ∷ []) n
  asked_then q d b is take new does =
      change_one (disk_head w log) (disk_head v (log ++ e ∷ [])) (λ x y. y ≡ after_asking q b x) q.disk n others
      (λ y made_so. made_so ∙ this) new does
    where
      not_asked : (j : ℕ) → j ≢ q.disk → (q.disk == j) ≡ false
      not_asked j other = ne_eqb q.disk j (λ same. other (sym same))

      others : (j : ℕ) → j ≢ q.disk → disk_head w log j ≡ disk_head v (log ++ e ∷ []) j
      others j other = search (rules, stays (outcomes.Asked q) is j)

      by_take : (c : ℕ) × (e.step ≡ steps.Take q.disk c)
      by_take = search (rules, changes q.disk)

      same_bio : by_take.0 ≡ b
      same_bio = let both : steps.Take q.disk by_take.0 ≡ steps.Take d b = sym by_take.1 ∙ take in cc

      this : after_asking q b (disk_head w log q.disk) ≡ disk_head v (log ++ e ∷ []) q.disk
      this = search (rules, head_then q.disk, eq-eqb q.disk q.disk, changes q.disk, same_bio)

  -- a bio comes to a disk, with a greater number than all
  pub queued_then : (d b : ℕ) (x : Waiting) → e.outcome ≡ outcomes.Queued d → e.step ≡ steps.Start b → x.bio ≡ b
      → ((P : Waiting → Type 0) → AllByRecursion P (waiting_for v d) → P x)
      → (new : List DiskHead) → ChangesOne d (Queues true x) (disk_heads w log n) new
      → new ≡ disk_heads v (log ++ e ∷ []) n
  queued_then d b x is start number here new does =
      search (
        rules,
        change_one (disk_head w log) (disk_head v (log ++ e ∷ [])) (Queues true x) d n,
        stays (outcomes.Queued d) is,
        changes d,
        eq-eqb d d,
        head_then d,
        ap (head_after d (head_of log d)) is,
        comes_behind b (waiting_for w d) (waiting_for v d) x,
      )
