-- A bio that a seat took stays at the seat until the seat goes on, so it can be answered until then.
use Rattle.std.proofs.Common.{◌≡◌, ◌≢◌, ℕ, ◌<◌, ◌==◌, Bool, true, false, List, [], ◌∷◌, ◌++◌, map, Some, Ok, IsTrue, All, append-nil, inl, inr, refl, sym, ◌∙◌, ap, subst, arith, eq-eqb, eqb-true, append_assoc, slice_get, IsSomeAnd}
use Rattle.std.proofs.lemmas.Bool.{both_ways}
use Rattle.std.proofs.lemmas.List.{same_from_push}
use Rattle.std.proofs.lemmas.List.Elements.{All-contains, All-from_recursion, recursion_from_All}
use Rattle.std.specs.List.{AllByRecursion}
use Rattle.geo_model.specs.declared.step.DeviceResult.{DeviceResult}
use Rattle.geo_model.specs.declared.step.Entry.{Entry}
use Rattle.geo_model.specs.declared.step.Outcome.{Outcome}
use Rattle.geo_model.specs.declared.step.Outcome.TheVariants as outcomes
use Rattle.geo_model.specs.declared.step.Phase.TheVariants as phases
use Rattle.geo_model.specs.declared.step.Request.{Request}
use Rattle.geo_model.specs.declared.step.Step.TheVariants as steps
use Rattle.geo_model.specs.Bios.{take_bio}
use Rattle.geo_model.specs.Fitting.{Firm}
use Rattle.geo_model.specs.Graph.{AreNumbers}
use Rattle.geo_model.specs.Laws.{TakenCanBeDelivered}
use Rattle.geo_model.specs.Log.{IsMade, Legal, after_entry, replay}
use Rattle.geo_model.specs.Opening.{opening}
use Rattle.geo_model.specs.Passes.{entries_of_seat}
use Rattle.geo_model.specs.Step.{is_enabled, step}
use Rattle.geo_model.specs.World.{World, Bio, change_number, HeaderDisk}
use Rattle.geo_model.proofs.LogLemmas.{Legal-back, Legal-front, replay-append}
use Rattle.geo_laws_graph.proofs.Living.{all_members}
use Rattle.geo_laws_graph.proofs.Members.{Contains-map, find-Contains}
use Rattle.geo_laws_graph.proofs.Numbered.{filter-pushed, filter-pushed_hit, number_found}
use Rattle.geo_laws_requests.proofs.Along.{entry_made}
use Rattle.geo_laws_requests.proofs.Legal.{opened_firm, steps_stay_firm, firm_after}
use Rattle.geo_laws_requests.proofs.Named.{TakesIt, takes_it}
use Rattle.geo_laws_requests.proofs.Starts.{in_phase}
use Rattle.geo_laws_disks.specs.DiskLaws.{AsksInside, LiesInside}
use Rattle.geo_laws_disks.specs.DriveLaws.{IsServable}
use Rattle.geo_laws_disks.specs.TakenLaws.{TakenCanBeAnswered}
use Rattle.geo_laws_disks.proofs.Answerable.{can_be_delivered, delivers_stay_enabled}
use Rattle.geo_laws_disks.proofs.Inside.{disks_are_asked}
use Rattle.geo_laws_disks.proofs.Origins.{HasOrigins, Origin, steps_origins}
use Rattle.geo_laws_disks.proofs.Takes.{takes_are_servable}
use Rattle.geo_laws_disks.proofs.Requests.{none_in}

-- a bio, if it has the number, is Busy at the seat
abbrev IsAt : ℕ → ℕ → Bio → Type 0
IsAt seat b x = x.number ≡ b → x.phase ≡ phases.Busy seat

-- a seat is at a bio: its number was given out, and where it stands it is Busy at the seat
record IsHeld (w : World) (seat b : ℕ) : Type 0 where
  made : b < w.next_bio
  busy : All (IsAt seat b) w.bios

-- a step of another seat leaves it so
held_after : (w v : World) (seat other b : ℕ) → HasOrigins w v seat → other ≢ seat → IsHeld w other b
    → IsHeld v other b
held_after w v seat other b origins apart held = record {
  made = omega (arith, held.made, origins.next);
  busy = all_members (Origin w seat) (IsAt other b) v.bios (λ z here origin. by z origin) origins.each;
}
  where
    by : (z : Bio) → Origin w seat z → IsAt other b z
    by z (inl was) same =
        was.busy other apart (All-contains (IsAt other b) w.bios was.before held.busy was.here (sym was.number ∙ same))
    by z (inr new) same = absurd (omega (arith, new.number, same, held.made))

-- the bios of a number are Busy once they are so turned
turned_busy : (seat b : ℕ) (zs : List Bio)
    → AllByRecursion (IsAt seat b) (change_number b (in_phase (phases.Busy seat)) zs)
turned_busy seat b [] = tt
turned_busy seat b (z ∷ zs) = by (z.number == b) refl (turned_busy seat b zs)
  where
    by : (c : Bool) → (z.number == b) ≡ c
        → AllByRecursion (IsAt seat b) (change_number b (in_phase (phases.Busy seat)) zs)
        → AllByRecursion (IsAt seat b) (change_number b (in_phase (phases.Busy seat)) (z ∷ zs))
    by true e rest = rw e ((λ same. refl), rest)
    by false e rest =
        let other : IsAt seat b z =
        (λ same. absurd (both_ways (z.number == b) e (rw same (eq-eqb b b refl)))) in
        rw e (other, rest)

-- after its Take the seat is at the bio
held_by_take : (w v : World) (seat disk b : ℕ) (o : Outcome)
    → AreNumbers (map (λ (y : Bio). y.number) w.bios) w.next_bio → step w seat (steps.Take disk b) ≡ Ok (v, o)
    → IsHeld v seat b
unfolding take_bio
held_by_take w v seat disk b o are made = record {
  made =
      let below : it.bio.number < w.next_bio =
      All-contains (λ n. n < w.next_bio) (map (λ (y : Bio). y.number) w.bios) it.bio.number are.1
      (Contains-map (λ (y : Bio). y.number) w.bios it.bio
      (find-Contains (λ (y : Bio). y.number == b) w.bios it.bio it.found)) in
      omega (arith, below, its, ap (λ (m : World × Outcome). m.0.next_bio) it.made);
  busy = subst (λ ys. All (IsAt seat b) ys) (sym bios)
      (All-from_recursion (IsAt seat b) (change_number b (in_phase (phases.Busy seat)) w.bios)
      (turned_busy seat b w.bios));
}
  where
    it : TakesIt w v seat disk b o
    it = takes_it w v seat disk b o made

    its : it.bio.number ≡ b
    its = number_found (λ (y : Bio). y.number) w.bios b it.bio it.found

    bios : v.bios ≡ change_number b (in_phase (phases.Busy seat)) w.bios
    bios =
        ap (λ (m : World × Outcome). m.0.bios) it.made
        ∙ ap (λ n. change_number n (in_phase (phases.Busy seat)) w.bios) its

-- where the last entry of a seat is a Take, the seat is at the bio
abbrev TakesHold : List Entry → World → Type 0
TakesHold log w =
    (seat disk b : ℕ) (start : List Entry) (e : Entry)
    → entries_of_seat seat log ≡ start ++ e ∷ [] → e.step ≡ steps.Take disk b → IsHeld w seat b

-- one entry more
holds_after : (log : List Entry) (w : World) (next : Entry) → Firm w → IsMade w next → TakesHold log w
    → TakesHold (log ++ next ∷ []) (after_entry w next)
holds_after log w next firm made before seat disk b start e last takes = by (next.seat == seat) refl
  where
    v : World
    v = after_entry w next

    by : (c : Bool) → (next.seat == seat) ≡ c → IsHeld v seat b
    by true own =
        let whole : entries_of_seat seat log ++ next ∷ [] ≡ start ++ e ∷ [] =
        sym (filter-pushed_hit (λ (x : Entry). x.seat == seat) log next own) ∙ last in
        let same : next ≡ e = (same_from_push (entries_of_seat seat log) start next e whole).1 in
        let is : next.step ≡ steps.Take disk b = ap (λ (x : Entry). x.step) same ∙ takes in
        subst (λ n. IsHeld v n b) (eqb-true next.seat seat own)
        (held_by_take w v next.seat disk b next.outcome firm.bios.numbers
        (subst (λ s. step w next.seat s ≡ Ok (v, next.outcome)) is (entry_made w next made)))
    by false other =
        held_after w v next.seat seat b
        (steps_origins w v next.seat next.step next.outcome firm (entry_made w next made))
        (λ same. both_ways (next.seat == seat) other (rw (sym same) (eq-eqb seat seat refl)))
        (before seat disk b start e (sym (filter-pushed (λ (x : Entry). x.seat == seat) log next other) ∙ last) takes)

-- along a legal log
holds_along : (front : List Entry) (w : World) (log : List Entry) → Firm w → Legal w log → TakesHold front w
    → TakesHold (front ++ log) (replay w log)
holds_along front w [] firm legal before = subst (λ l. TakesHold l w) (sym (append-nil front)) before
holds_along front w (e ∷ log) firm legal before =
    subst (λ l. TakesHold l (replay w (e ∷ log))) (append_assoc front (e ∷ []) log)
    (holds_along (front ++ e ∷ []) (after_entry w e) log (steps_stay_firm w e.seat e.step firm) legal.1
    (holds_after front w e firm legal.0 before))

-- what was taken last can be delivered
pub taken_can_be_delivered : TakenCanBeDelivered
taken_can_be_delivered plan facts is fit log legal seat disk b start e x got last takes at fits =
    let w : World = replay (opening plan facts) log in
    let held : IsHeld w seat b =
    holds_along [] (opening plan facts) log (opened_firm plan facts is fit) legal
    (λ s d n begins l none step. absurd (none_in begins l [] none)) seat disk b start e last takes in
    can_be_delivered w seat b x got at
    (All-contains (IsAt seat b) w.bios x held.busy (find-Contains (λ (y : Bio). y.number == b) w.bios x at)
    (number_found (λ (y : Bio). y.number) w.bios b x at)) fits

-- along entries of other seats
still_enabled : (w : World) (seat b : ℕ) (got : DeviceResult) (later : List Entry) → Firm w → Legal w later
    → AllByRecursion (λ (x : Entry). x.seat ≢ seat) later → IsTrue (is_enabled w seat (steps.Deliver b got))
    → IsTrue (is_enabled (replay w later) seat (steps.Deliver b got))
still_enabled w seat b got [] firm legal others can = can
still_enabled w seat b got (x ∷ later) firm legal others can =
    still_enabled (after_entry w x) seat b got later (steps_stay_firm w x.seat x.step firm) legal.1 others.1
    (delivers_stay_enabled w (after_entry w x) seat x.seat b x.step x.outcome got firm others.0
    (entry_made w x legal.0) can)

-- what was taken can be answered
pub taken_can_be_answered : TakenCanBeAnswered
taken_can_be_answered plan facts is fit log legal earlier later e disk b q header got split takes asks others at fits =
    subst (λ (z : World). IsTrue (is_enabled z e.seat (steps.Deliver b got))) (sym last)
    (still_enabled v e.seat b got later (steps_stay_firm w e.seat e.step firm) back.1
    (recursion_from_All (λ (x : Entry). x.seat ≢ e.seat) later others) (servable.fits got fits))
  where
    opened : World
    opened = opening plan facts

    w : World
    w = replay opened earlier

    v : World
    v = after_entry w e

    firm : Firm w
    firm = firm_after plan facts is fit earlier

    whole : Legal opened (earlier ++ e ∷ later)
    whole = subst (λ (l : List Entry). Legal opened l) split legal

    front : Legal opened earlier
    front = Legal-front opened earlier (e ∷ later) whole

    back : Legal w (e ∷ later)
    back = Legal-back opened earlier (e ∷ later) whole

    last : replay opened log ≡ replay v later
    last = ap (λ (l : List Entry). replay opened l) split ∙ replay-append opened earlier (e ∷ later)

    made : step w e.seat (steps.Take disk b) ≡ Ok (v, outcomes.Asked q)
    made =
        subst (λ (o : Outcome). step w e.seat (steps.Take disk b) ≡ Ok (v, o)) asks
        (subst (λ s. step w e.seat s ≡ Ok (v, e.outcome)) takes (entry_made w e back.0))

    asked : AsksInside opened disk e.outcome
    asked = disks_are_asked.inside plan facts is fit log legal earlier e (later, split) disk b takes

    its : asked.request ≡ q
    its = let same : outcomes.Asked q ≡ outcomes.Asked asked.request = sym asks ∙ asked.is in cc

    lies : LiesInside q header
    lies =
        let there : IsSomeAnd (slice_get opened.disks disk) (LiesInside asked.request) = asked.inside in
        subst (λ (r : Request). LiesInside r header) its
        (subst (λ o. IsSomeAnd o (LiesInside asked.request)) at there)

    header_then : slice_get w.disks disk ≡ Some header
    header_then =
        ap (λ (ds : List HeaderDisk). slice_get ds disk) (disks_are_asked.disks plan facts is fit earlier front) ∙ at

    servable : IsServable w v e.seat b q header
    servable = takes_are_servable w v e.seat disk b q header firm made header_then lies
