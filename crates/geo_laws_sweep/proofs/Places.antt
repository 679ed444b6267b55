-- Along a log in the elevator order the place at which a disk takes its requests falls at most once where none comes,
-- and none is taken before a FLUSH that waits for longer.
use Rattle.std.proofs.Common.{◌≡◌, ℕ, ◌+◌, ◌≤◌, ◌==◌, Bool, true, false, List, [], ◌∷◌, ◌++◌, filter, find, map, length, Option, Some, None, Ok, All, Contains, IsSome, IsTrue, if◌then◌else◌, inl, inr, refl, sym, ◌∙◌, ap, subst, arith, eq-eqb, append_assoc}
use Rattle.std.specs.List.{AllByRecursion, range_with_len}
use Rattle.std.proofs.lemmas.List.Elements.{All-from_recursion, recursion_from_All}
use Rattle.std.proofs.lemmas.List.Sums.{fold-append}
use Rattle.geo_base.proofs.AllLists.{all_weaker}
use Rattle.geo_model.specs.declared.step.Entry.{Entry}
use Rattle.geo_model.specs.declared.step.Outcome.{Outcome}
use Rattle.geo_model.specs.declared.step.Outcome.TheVariants as outcomes
use Rattle.geo_model.specs.declared.step.Request.{Request}
use Rattle.geo_model.specs.declared.step.Step.{Step}
use Rattle.geo_model.specs.declared.step.Step.TheVariants as steps
use Rattle.geo_model.specs.Words.{is_flush}
use Rattle.geo_model.specs.Graph.{AreNumbers}
use Rattle.geo_model.specs.World.{World, Bio, Plan, is_up, is_down}
use Rattle.geo_model.specs.Opening.{opening}
use Rattle.geo_model.specs.Plans.{MayBegin, FactsFit}
use Rattle.geo_model.specs.Step.{step, is_enabled}
use Rattle.geo_model.specs.Log.{Legal, replay, after_entry, IsSplitBy}
use Rattle.geo_model.specs.Fitting.{Firm}
use Rattle.geo_model.specs.FixedOrder.{FollowsOrder, FollowsTake}
use Rattle.geo_model.specs.Order.{if_enabled, earliest, ready_actors}
use Rattle.geo_model.proofs.LogLemmas.{replay-append, Legal-back}
use Rattle.geo_laws_graph.proofs.Lists.{Rise, rise-from, rise-wider, numbers-from, found_itself}
use Rattle.geo_laws_graph.proofs.Numbered.{unique}
use Rattle.geo_laws_steps.proofs.Logs.{firm_after}
use Rattle.geo_laws_requests.proofs.Along.{entry_made}
use Rattle.geo_laws_rest.proofs.Picking.{from_some, given}
use Rattle.geo_laws_sweep.specs.SweepLaws.{WaitingChanges, Asks, is_queued, is_asked, places_asked, breaks_run, FallsOnce, NonePassesFlush, SweepsKeepPlaces}
use Rattle.geo_laws_sweep.specs.Elevator.{AreAhead, Shrinks, TakesFrom}
use Rattle.geo_headline.specs.Sweep.{Waiting, waiting_of, is_sent_to, waiting_for, before_flush, candidates, next_of, head_after, head_of, next_take, first_take, enabled_one, pick_sweep, sweep_order}
use Rattle.geo_laws_sweep.proofs.SentBios.{all_high}
use Rattle.geo_laws_sweep.proofs.ElevatorFacts.{among_candidates, next_holds, takes_fall_once}
use Rattle.geo_laws_sweep.proofs.WaitingFacts.{is_other, steps_change_waiting, takes_ask_waiting}
use Rattle.geo_laws_sweep.proofs.Sweeping.{one_of, first_holds}

-- Numbers of what waits

-- the numbers rise, and stay below another
abbrev RisesFrom : ℕ → List Waiting → ℕ → Type 0
RisesFrom low xs high = Rise low (map (λ (z : Waiting). z.bio) xs) high

-- so do those of what waits
waiting_rises : (w : World) (disk low high : ℕ) (xs : List Bio) → Rise low (map (λ (x : Bio). x.number) xs) high
    → RisesFrom low (map (waiting_of w) (filter (is_sent_to w disk) xs)) high
waiting_rises w disk low high [] rise = tt
waiting_rises w disk low high (x ∷ xs) rise =
    by (is_sent_to w disk x) refl (waiting_rises w disk (x.number + 1) high xs rise.2)
  where
    by : (b : Bool) → is_sent_to w disk x ≡ b
        → RisesFrom (x.number + 1) (map (waiting_of w) (filter (is_sent_to w disk) xs)) high
        → RisesFrom low (map (waiting_of w) (filter (is_sent_to w disk) (x ∷ xs))) high
    by true e rest = rw e (rise.0, rise.1, rest)
    by false e rest = rw e (rise-wider (x.number + 1) low high high _ (omega (arith, rise.0)) (omega arith) rest)

-- None passes a FLUSH

-- no FLUSH has a smaller number
abbrev NoneEarlier : List Waiting → Waiting → Type 0
NoneEarlier xs z = AllByRecursion (λ (y : Waiting). y.flush ≡ true → z.bio ≤ y.bio) xs

-- the first of some
first_none : (low high : ℕ) (x : Waiting) (xs : List Waiting) → RisesFrom low (x ∷ xs) high
    → NoneEarlier (x ∷ xs) x
first_none low high x xs rise = (
  λ e. omega arith,
  all_weaker (λ (z : Waiting). x.bio ≤ z.bio) (λ (z : Waiting). z.flush ≡ true → x.bio ≤ z.bio) (λ z most e. most) xs
      (all_high (λ (z : Waiting). z.bio) x.bio (x.bio + 1) high xs rise.2 (omega arith)),
)

-- behind one that is no FLUSH
behind_none : (x : Waiting) (xs zs : List Waiting) → x.flush ≡ false → AllByRecursion (NoneEarlier xs) zs
    → AllByRecursion (NoneEarlier (x ∷ xs)) zs
behind_none x xs zs other facts =
    all_weaker (NoneEarlier xs) (NoneEarlier (x ∷ xs))
    (λ z fact. ((λ e. (let no : false ≡ true = sym other ∙ e in absurd (let bad : ⊥ = cc in bad))), fact)) zs facts

-- those that stand before the first FLUSH
front_none : (low high : ℕ) (xs : List Waiting) → RisesFrom low xs high
    → AllByRecursion (NoneEarlier xs) (before_flush xs)
front_none low high [] rise = tt
front_none low high (x ∷ xs) rise = by x.flush refl (front_none (x.bio + 1) high xs rise.2)
  where
    by : (b : Bool) → x.flush ≡ b → AllByRecursion (NoneEarlier xs) (before_flush xs)
        → AllByRecursion (NoneEarlier (x ∷ xs)) (if b then [] else x ∷ before_flush xs)
    by true e rest = tt
    by false e rest = (first_none low high x xs rise, behind_none x xs (before_flush xs) e rest)

-- so the candidates
candidates_none : (low high : ℕ) (xs : List Waiting) → RisesFrom low xs high
    → AllByRecursion (NoneEarlier xs) (candidates xs)
candidates_none low high [] rise = tt
candidates_none low high (x ∷ xs) rise = by x.flush refl
  where
    by : (b : Bool) → x.flush ≡ b
        → AllByRecursion (NoneEarlier (x ∷ xs)) (if b then x ∷ [] else x ∷ before_flush xs)
    by true e = (first_none low high x xs rise, tt)
    by false e = (
      first_none low high x xs rise,
      behind_none x xs (before_flush xs) e (front_none (x.bio + 1) high xs rise.2),
    )

-- What shrinks

-- where one goes that is no FLUSH
shrinks : (n : ℕ) (xs : List Waiting) → AllByRecursion (λ (y : Waiting). (y.bio == n) ≡ true → y.flush ≡ false) xs
    → Shrinks xs (filter (is_other n) xs)
shrinks n [] so h ahead = tt
shrinks n (x ∷ xs) so h ahead = by (x.bio == n) x.flush refl refl (shrinks n xs so.1 h)
  where
    front : x.flush ≡ false → AreAhead h (x ∷ before_flush xs)
    front f = rw f at ahead

    by : (b c : Bool) → (x.bio == n) ≡ b → x.flush ≡ c
        → (AreAhead h (before_flush xs) → AreAhead h (before_flush (filter (is_other n) xs)))
        → AreAhead h (before_flush (filter (is_other n) (x ∷ xs)))
    by true c e f rest = rw e (rest (front (so.0 e)).1)
    by false true e f rest = rw (e, f) tt
    by false false e f rest = rw (e, f) ((front f).0, rest (front f).1)

-- The Take that is due

-- the bio is next at the disk
record IsNext (w : World) (log : List Entry) (disk b : ℕ) : Type 0 where
  one : Waiting
  next : next_of (head_of log disk) (candidates (waiting_for w disk)) ≡ Some one
  number : one.bio ≡ b

module _ (w : World) (log : List Entry) where
  -- where the step is a Take, its bio is next
  abbrev IsDue : Step → Type 0
  IsDue s = (disk b : ℕ) → s ≡ steps.Take disk b → IsNext w log disk b

  -- one that is tried
  tried_due : (s : Step) → IsDue s → (r : Step) → if_enabled w s ≡ Some r → IsDue r
  tried_due s so = given w s IsDue (λ enabled. so) (is_enabled w 0 s) refl

  -- the Take at a disk
  take_due : (d : ℕ) (s : Step) → next_take w log d ≡ Some s → IsDue s
  take_due d =
      from_some (λ (y : Waiting). steps.Take d y.bio) (next_of (head_of log d) (candidates (waiting_for w d))) IsDue
      (λ y found disk b is.
      let same : d ≡ disk = cc in
      let number : y.bio ≡ b = cc in
      subst (λ (n : ℕ). IsNext w log n b) same (record { one = y; next = found; number = number }))

  -- the one that is enabled
  one_due : (o : Option Step) → ((s : Step) → o ≡ Some s → IsDue s) → (r : Step) → enabled_one w o ≡ Some r → IsDue r
  one_due None so r e = absurd (let no : ⊥ = cc in no)
  one_due (Some s) so r e = tried_due s (so s refl) r e

  -- so the step of the elevator order
  due : (s : Step) → pick_sweep w log ≡ Some s → IsDue s
  unfolding pick_sweep
  due =
      one_of IsDue _ _
      (from_some (λ (x : Bio). steps.Up x.number) (find (λ (x : Bio). is_up x.phase) w.bios) IsDue
      (λ x found disk b is. absurd (let no : ⊥ = cc in no)))
      (one_of IsDue _ _
      (from_some (λ (x : Bio). steps.Start x.number) (find (λ (x : Bio). is_down x.phase) w.bios) IsDue
      (λ x found disk b is. absurd (let no : ⊥ = cc in no)))
      (one_of IsDue _ _ (tried_due steps.Judge (λ disk b is. absurd (let no : ⊥ = cc in no)))
      (one_of IsDue _ _ (tried_due steps.Event (λ disk b is. absurd (let no : ⊥ = cc in no)))
      (one_of IsDue _ _
      (from_some (λ (actor : ℕ). steps.Go actor) (earliest (ready_actors w)) IsDue
      (λ x found disk b is. absurd (let no : ⊥ = cc in no)))
      (one_of IsDue _ _
      (one_due (first_take w log) (first_holds IsDue (next_take w log) take_due (range_with_len 0 (length w.disks))))
      (one_of IsDue _ _ (tried_due steps.Reap (λ disk b is. absurd (let no : ⊥ = cc in no)))
      (one_of IsDue _ _ (tried_due steps.Wash (λ disk b is. absurd (let no : ⊥ = cc in no)))
      (λ s e. absurd (let no : ⊥ = cc in no)))))))))

-- A Take is no Deliver
not_delivered : (earlier : List Entry) (disk b : ℕ) → FollowsTake earlier (steps.Take disk b) → ⊥
not_delivered earlier disk b (start, e, is, some, same) =
    let none : IsSome {T = ℕ} None = subst (λ (o : Option ℕ). IsSome o) same some in let no : ⊥ = cc in no

-- One entry

-- what the disk takes by it, where its bio is the next, and what then waits
module _ (w : World) (firm : Firm w) (log : List Entry) (e : Entry) (disk : ℕ)
    (made : step w e.seat e.step ≡ Ok (after_entry w e, e.outcome))
    (next : (b : ℕ) → e.step ≡ steps.Take disk b → IsNext w log disk b) where
  -- what waits, before and then
  abbrev before : List Waiting
  before = waiting_for w disk

  -- what waits then
  abbrev waiting_then : List Waiting
  waiting_then = waiting_for (after_entry w e) disk

  -- the head before
  abbrev head : ℕ
  head = head_of log disk

  -- how what waits changes
  changes : WaitingChanges disk e.step e.outcome before waiting_then
  changes = steps_change_waiting w (after_entry w e) e.seat disk e.step e.outcome firm made

  -- its numbers rise
  rises : RisesFrom 0 before w.next_bio
  rises =
      waiting_rises w disk 0 w.next_bio w.bios
      (rise-from w.next_bio (map (λ (x : Bio). x.number) w.bios) firm.bios.numbers)

  -- of those that wait, a number has one
  only_one : (n : ℕ) (x : Waiting) → Contains before x → x.bio ≡ n
      → AllByRecursion (λ (y : Waiting). (y.bio == n) ≡ true → y ≡ x) before
  only_one n x here number =
      let are : AreNumbers (map (λ (z : Waiting). z.bio) before) w.next_bio =
      numbers-from 0 w.next_bio (map (λ (z : Waiting). z.bio) before) rises in
      unique (λ (z : Waiting). z.bio) w.next_bio n before x are
      (subst (λ (m : ℕ). find (λ (z : Waiting). z.bio == m) before ≡ Some x) number
      (found_itself (λ (z : Waiting). z.bio) w.next_bio before x are here))

  module _ (q : Request) (is : e.outcome ≡ outcomes.Asked q) (here : (q.disk == disk) ≡ true)
      (moves : is_flush q.cmd ≡ false) (ps : List ℕ) (rest : TakesFrom q.first waiting_then ps) where
    -- the bio that is taken
    by_take : (b : ℕ) × (e.step ≡ steps.Take disk b)
    by_take = changes.asked_by_take (subst (λ (o : Outcome). IsTrue (is_asked disk o)) (sym is) here)

    -- the number of it
    abbrev b : ℕ
    b = by_take.0

    -- it waited, and is asked for
    asks : (x : Waiting) × Contains before x × (x.bio ≡ b) × Asks x e.outcome
    asks =
        takes_ask_waiting w (after_entry w e) e.seat disk b e.outcome firm
        (subst (λ (s : Step). step w e.seat s ≡ Ok (after_entry w e, e.outcome)) by_take.1 made)

    -- with its first sector and its kind
    asks_so : (q.first ≡ asks.0.first) × (is_flush q.cmd ≡ asks.0.flush)
    asks_so = subst (Asks asks.0) is asks.3

    -- it is the next
    its_next : IsNext w log disk b
    its_next = next b by_take.1

    -- so it is the one that is asked for
    same : its_next.one ≡ asks.0
    same =
        next_holds (λ (y : Waiting). (y.bio == b) ≡ true → y ≡ asks.0) head before its_next.one
        (only_one b asks.0 asks.1 asks.2) its_next.next (eq-eqb its_next.one.bio b its_next.number)

    -- so the disk takes it from what waits
    takes_it : TakesFrom head before (q.first ∷ ps)
    takes_it = (
      its_next.one,
      waiting_then,
      its_next.next,
      ap (λ (z : Waiting). z.flush) same ∙ sym asks_so.1 ∙ moves,
      ap (λ (z : Waiting). z.first) same ∙ sym asks_so.0,
      subst (Shrinks before) (sym (changes.taken b by_take.1))
          (shrinks b before
          (all_weaker (λ (y : Waiting). (y.bio == b) ≡ true → y ≡ asks.0)
          (λ (y : Waiting). (y.bio == b) ≡ true → y.flush ≡ false)
          (λ y only hit. ap (λ (z : Waiting). z.flush) (only hit) ∙ sym asks_so.1 ∙ moves) before
          (only_one b asks.0 asks.1 asks.2))),
      rest,
    )

  -- an entry that takes nothing
  passed_over : (o : Outcome) → e.outcome ≡ o → is_queued disk o ≡ false → is_asked disk o ≡ false → (ps : List ℕ)
      → TakesFrom head waiting_then ps → TakesFrom head before ps
  passed_over o is queued asked ps rest =
      subst (λ (xs : List Waiting). TakesFrom head xs ps)
      (changes.stays (subst (λ (p : Outcome). is_queued disk p ≡ false) (sym is) queued)
      (subst (λ (p : Outcome). is_asked disk p ≡ false) (sym is) asked)) rest

  -- what a disk was asked, by whether it is this disk, and by a FLUSH
  asked_by : (q : Request) → e.outcome ≡ outcomes.Asked q → (b c : Bool) → (q.disk == disk) ≡ b → is_flush q.cmd ≡ c
      → breaks_run disk (outcomes.Asked q) ≡ false → (run : List Entry)
      → TakesFrom (head_after disk head (outcomes.Asked q)) waiting_then (places_asked disk run)
      → TakesFrom head before (places_asked disk (record e { outcome = outcomes.Asked q } ∷ run))
  asked_by q is true true f g quiet run rest =
      let no : true ≡ false = rw (f, g) at quiet in absurd (let bad : ⊥ = cc in bad)
  asked_by q is true false f g quiet run rest =
      rw (f, g) (takes_it q is f g (places_asked disk run) (rw (f, g) at rest))
  asked_by q is false c f g quiet run rest =
      rw f (passed_over (outcomes.Asked q) is refl f (places_asked disk run) (rw f at rest))

  -- one entry more
  entry_by : (o : Outcome) → e.outcome ≡ o → breaks_run disk o ≡ false → (run : List Entry)
      → TakesFrom (head_after disk head o) waiting_then (places_asked disk run)
      → TakesFrom head before (places_asked disk (record e { outcome = o } ∷ run))
  entry_by (outcomes.Asked q) is quiet run rest =
      asked_by q is (q.disk == disk) (is_flush q.cmd) refl refl quiet run rest
  entry_by (outcomes.Queued d) is quiet run rest =
      passed_over (outcomes.Queued d) is quiet refl (places_asked disk run) rest
  entry_by o is quiet run rest = passed_over o is refl refl (places_asked disk run) rest

-- Along a log

module _ (plan : Plan) (facts : List (ℕ × ℕ)) (begins : MayBegin plan) (fit : FactsFit plan facts)
    (first_part log : List Entry) (legal : Legal (opening plan facts) (first_part ++ log))
    (follows : FollowsOrder sweep_order (opening plan facts) first_part log) where
  -- the mesh before all
  abbrev opened : World
  opened = opening plan facts

  -- all that was done before an entry
  abbrev so_far : List Entry → List Entry
  so_far earlier = first_part ++ earlier

  -- the mesh before it
  abbrev world_at : List Entry → World
  world_at earlier = replay opened (so_far earlier)

  -- it is firm
  firm_at : (earlier : List Entry) → Firm (world_at earlier)
  firm_at earlier = firm_after plan facts begins fit (so_far earlier)

  module _ (earlier : List Entry) (e : Entry) (split : IsSplitBy log earlier e) where
    -- the bio of a Take is next
    next_at : (disk b : ℕ) → e.step ≡ steps.Take disk b → IsNext (world_at earlier) (so_far earlier) disk b
    next_at disk b is =
        elim ((follows earlier e split).was_due) [
          | inl due_now ↦ due (world_at earlier) (so_far earlier) e.step due_now disk b is
          | inr behind ↦ absurd (not_delivered (so_far earlier) disk b (subst (FollowsTake (so_far earlier)) is behind))
        ]

    -- the entry is what its step does
    made_at : step (world_at earlier) e.seat e.step ≡ Ok (after_entry (world_at earlier) e, e.outcome)
    made_at =
        let all : first_part ++ log ≡ so_far earlier ++ (e ∷ split.0) =
        ap (λ (xs : List Entry). first_part ++ xs) split.1 ∙ sym (append_assoc first_part earlier (e ∷ split.0)) in
        entry_made (world_at earlier) e
        (Legal-back opened (so_far earlier) (e ∷ split.0) (subst (Legal opened) all legal)).0

  -- no FLUSH that waits for longer is passed
  passes_none : (earlier : List Entry) (e : Entry) → IsSplitBy log earlier e → (disk b : ℕ)
      → e.step ≡ steps.Take disk b
      → All (λ x. IsTrue x.flush → b ≤ x.bio) (waiting_for (world_at earlier) disk)
  passes_none earlier e split disk b is =
      let w : World = world_at earlier in
      let one = next_at earlier e split disk b is in
      let rise : RisesFrom 0 (waiting_for w disk) w.next_bio =
      waiting_rises w disk 0 w.next_bio w.bios
      (rise-from w.next_bio (map (λ (x : Bio). x.number) w.bios) (firm_at earlier).bios.numbers) in
      All-from_recursion (λ (x : Waiting). IsTrue x.flush → b ≤ x.bio) (waiting_for w disk)
      (all_weaker (λ (x : Waiting). x.flush ≡ true → one.one.bio ≤ x.bio) (λ (x : Waiting). IsTrue x.flush → b ≤ x.bio)
      (λ x low flush. subst (λ (n : ℕ). n ≤ x.bio) one.number (low flush)) (waiting_for w disk)
      (among_candidates (NoneEarlier (waiting_for w disk)) (head_of (so_far earlier) disk)
      (candidates (waiting_for w disk)) one.one (candidates_none 0 w.next_bio (waiting_for w disk) rise) one.next))

  -- so from the mesh on with which the part begins
  none_passes_flush : NonePassesFlush (replay opened first_part) log
  none_passes_flush earlier e split disk b is =
      subst (λ (w : World). All (λ x. IsTrue x.flush → b ≤ x.bio) (waiting_for w disk))
      (replay-append opened first_part earlier) (passes_none earlier e split disk b is)

  -- what a disk takes of what waits
  takes_from : (disk : ℕ) (run earlier later : List Entry) → log ≡ earlier ++ (run ++ later)
      → AllByRecursion (λ (e : Entry). breaks_run disk e.outcome ≡ false) run
      → TakesFrom (head_of (so_far earlier) disk) (waiting_for (world_at earlier) disk) (places_asked disk run)
  takes_from disk [] earlier later is quiet = tt
  takes_from disk (e ∷ run) earlier later is quiet =
      let w : World = world_at earlier in
      let split : IsSplitBy log earlier e = (run ++ later, is) in
      let further : log ≡ (earlier ++ e ∷ []) ++ (run ++ later) =
      is ∙ sym (append_assoc earlier (e ∷ []) (run ++ later)) in
      let more : so_far (earlier ++ e ∷ []) ≡ so_far earlier ++ e ∷ [] =
      sym (append_assoc first_part earlier (e ∷ [])) in
      let rest = takes_from disk run (earlier ++ e ∷ []) later further quiet.1 in
      let head_then : head_of (so_far (earlier ++ e ∷ [])) disk
      ≡ head_after disk (head_of (so_far earlier) disk) e.outcome =
      ap (λ (xs : List Entry). head_of xs disk) more
      ∙ fold-append (λ head (x : Entry). head_after disk head x.outcome) 0 (so_far earlier) (e ∷ []) in
      let world_then : world_at (earlier ++ e ∷ []) ≡ after_entry w e =
      ap (replay opened) more ∙ replay-append opened (so_far earlier) (e ∷ []) in
      let rest_then : TakesFrom (head_after disk (head_of (so_far earlier) disk) e.outcome)
      (waiting_for (after_entry w e) disk) (places_asked disk run) =
      subst (λ (n : ℕ). TakesFrom n (waiting_for (after_entry w e) disk) (places_asked disk run)) head_then
      (subst (λ (v : World). TakesFrom (head_of (so_far (earlier ++ e ∷ [])) disk) (waiting_for v disk)
      (places_asked disk run)) world_then rest) in
      entry_by w (firm_at earlier) (so_far earlier) e disk (made_at earlier e split) (next_at earlier e split disk)
      e.outcome refl quiet.0 run rest_then

  -- so the place falls at most once
  falls_once : FallsOnce log
  falls_once disk earlier run later is quiet =
      takes_fall_once (head_of (so_far earlier) disk) (waiting_for (world_at earlier) disk) (places_asked disk run)
      (takes_from disk run earlier later (is ∙ append_assoc earlier run later)
      (recursion_from_All (λ (e : Entry). breaks_run disk e.outcome ≡ false) run quiet))

-- the elevator order keeps places
pub sweeps_keep_places : SweepsKeepPlaces
sweeps_keep_places plan facts is fit first_part log legal follows = record {
  falls_once = falls_once plan facts is fit first_part log legal follows;
  none_passes = none_passes_flush plan facts is fit first_part log legal follows;
}
