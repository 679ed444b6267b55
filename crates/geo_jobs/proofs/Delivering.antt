-- A Deliver by the pass whose last own entry is the Take of the bio is never refused.
use Rattle.std.specs.Prelude.{◌≡◌, ◌≢◌, ℕ, Bool, true, false, List, [], ◌∷◌, ◌++◌, filter, eqb, Option, Some, None, Ok, Err, is_ok, IsSomeAnd, IsTrue}
use Rattle.std.specs.List.{AllByRecursion}
use Rattle.std.proofs.Common.{append-nil, refl, sym, ◌∙◌, ap, subst}
use Rattle.std.proofs.lemmas.Bool.{both_ways, eq-eqb}
use Rattle.std.proofs.lemmas.List.Elements.{All-from_recursion}
use Rattle.geo_model.specs.declared.step.DeviceResult.{DeviceResult}
use Rattle.geo_model.specs.declared.step.Entry.{Entry}
use Rattle.geo_model.specs.declared.step.Found.{Found}
use Rattle.geo_model.specs.declared.step.Outcome.{Outcome}
use Rattle.geo_model.specs.declared.step.Outcome.TheVariants as outcomes
use Rattle.geo_model.specs.declared.step.Request.{Request}
use Rattle.geo_model.specs.declared.step.Step.TheVariants as steps
use Rattle.geo_model.specs.World.{World, Bio, bio_at}
use Rattle.geo_model.specs.Bios.{deliver}
use Rattle.geo_model.specs.Log.{is_full, replay}
use Rattle.geo_model.specs.Step.{Answer, deliver_found, deliver_of, is_enabled, step, unless_found}
use Rattle.geo_model.proofs.NeverFull.{deliver-is_full}
use Rattle.geo_serve.specs.Drives.{DriveView}
use Rattle.geo_serve.specs.Serve.{fits_request}
use Rattle.geo_laws_disks.proofs.Answered.{taken_can_be_answered}
use Rattle.geo_lock.specs.Logged.{entries_with_seat}
use Rattle.geo_lock.specs.Yard.{IsPassOf, YardView}
use Rattle.geo_core.specs.declared.logged.MeshStart.{MeshStart}
use Rattle.geo_core.specs.Mesh.{IsHistory, entry_of}
use Rattle.geo_core.specs.Logged.{is_sure, mesh_of}
use Rattle.geo_core.proofs.LoggedAnswers.{delivers_are_sure}
use Rattle.geo_jobs.specs.declared.tried.Tried.{Tried}
use Rattle.geo_jobs.specs.declared.tried.Tried.TheVariants as tries
use Rattle.geo_jobs.specs.Passes.{Goes, IsGoodPass, MeshPass, opened_by}
use Rattle.geo_jobs.specs.Taking.{CanDeliver, HasSizesOf}
use Rattle.geo_jobs.specs.Making.{DidTry, MakesStep}
use Rattle.geo_jobs.proofs.Asking.{IsAskedAt, asked_at}
use Rattle.geo_jobs.proofs.Joins.{goes_join, history_of, still_of}

-- The outcome

found_delivers : (w : World) (x : Bio) (got : DeviceResult) (found : Option Found) (after : World) (o : Outcome)
    → unless_found found (deliver w x got) ≡ Ok (after, o) → o ≡ outcomes.Delivered
unfolding deliver
found_delivers w x got None after o is =
    let same : deliver w x got ≡ (after, o) = cc in sym (ap (λ (made : World × Outcome). made.1) same)
found_delivers w x got (Some found) after o is = absurd (let bad : ⊥ = cc in bad)

bio_delivers : (w : World) (seat : ℕ) (got : DeviceResult) (x : Option Bio) (after : World) (o : Outcome)
    → deliver_of w seat got x ≡ Ok (after, o) → o ≡ outcomes.Delivered
bio_delivers w seat got None after o is = absurd (let bad : ⊥ = cc in bad)
bio_delivers w seat got (Some x) after o is = found_delivers w x got (deliver_found w seat x got x.phase) after o is

-- a Deliver that is made delivers
pub delivers_deliver : (s : MeshStart) (p q : MeshPass) (bio : ℕ) (got : DeviceResult) (o : Outcome)
    → MakesStep s p q (steps.Deliver bio got) o → o ≡ outcomes.Delivered
unfolding step
delivers_deliver s p q bio got o made =
    bio_delivers (replay (opened_by s) made.before) p.number got (bio_at (replay (opened_by s) made.before) bio)
    made.after o made.does

-- The last entry of a seat

-- an entry of a log, behind which stand other seats' alone
record StandsLast (seat : ℕ) (log : List Entry) (e : Entry) : Type 0 where
  earlier : List Entry
  later : List Entry
  split : log ≡ earlier ++ e ∷ later
  others : AllByRecursion (λ (x : Entry). x.seat ≢ seat) later

abbrev is_of : ℕ → Entry → Bool
is_of seat x = eqb x.seat seat

nothing_last : (front : List Entry) (e : Entry) → [] ≡ front ++ e ∷ [] → ⊥
nothing_last [] e is = let bad : ⊥ = cc in bad
nothing_last (x ∷ front) e is = let bad : ⊥ = cc in bad

-- where a seat has no entry, all are other seats'
others_alone : (seat : ℕ) (log : List Entry) → filter (is_of seat) log ≡ []
    → AllByRecursion (λ (x : Entry). x.seat ≢ seat) log
others_alone seat [] none = tt
others_alone seat (x ∷ log) none = by (is_of seat x) refl (others_alone seat log)
  where
    by : (c : Bool) → is_of seat x ≡ c
        → (filter (is_of seat) log ≡ [] → AllByRecursion (λ (y : Entry). y.seat ≢ seat) log)
        → AllByRecursion (λ (y : Entry). y.seat ≢ seat) (x ∷ log)
    by true e rest =
        absurd (let some : x ∷ filter (is_of seat) log ≡ [] = rw e at none in (let bad : ⊥ = cc in bad))
    by false e rest =
        let empty : filter (is_of seat) log ≡ [] = rw e at none in
        ((λ same. both_ways (is_of seat x) e (eq-eqb x.seat seat same)), rest empty)

-- the last of a seat's entries stands last
last_of : (seat : ℕ) (log front : List Entry) (e : Entry) → filter (is_of seat) log ≡ front ++ e ∷ []
    → StandsLast seat log e
last_of seat [] front e is = absurd (nothing_last front e is)
last_of seat (x ∷ log) front e is = by (is_of seat x) refl (λ start same. last_of seat log start e same)
  where
    behind : StandsLast seat log e → StandsLast seat (x ∷ log) e
    behind rest = record {
      earlier = x ∷ rest.earlier;
      later = rest.later;
      split = ap (λ (l : List Entry). x ∷ l) rest.split;
      others = rest.others;
    }

    own : (start : List Entry) → x ∷ filter (is_of seat) log ≡ start ++ e ∷ []
        → ((less : List Entry) → filter (is_of seat) log ≡ less ++ e ∷ [] → StandsLast seat log e)
        → StandsLast seat (x ∷ log) e
    own [] same rest =
        let alone : x ∷ filter (is_of seat) log ≡ e ∷ [] = same in
        let here : x ≡ e = cc in
        let none : filter (is_of seat) log ≡ [] = cc in
        record {
          earlier = [];
          later = log;
          split = ap (λ (y : Entry). y ∷ log) here;
          others = others_alone seat log none;
        }
    own (y ∷ start) same rest =
        let whole : x ∷ filter (is_of seat) log ≡ y ∷ (start ++ e ∷ []) = same in
        let less : filter (is_of seat) log ≡ start ++ e ∷ [] = cc in
        behind (rest start less)

    by : (c : Bool) → is_of seat x ≡ c
        → ((start : List Entry) → filter (is_of seat) log ≡ start ++ e ∷ [] → StandsLast seat log e)
        → StandsLast seat (x ∷ log) e
    by true hit rest =
        let same : x ∷ filter (is_of seat) log ≡ front ++ e ∷ [] = rw hit at is in own front same rest
    by false miss rest =
        let same : filter (is_of seat) log ≡ front ++ e ∷ [] = rw miss at is in behind (rest front same)

-- What was taken

-- after a Take its pass can deliver each answer that fits the request in the sectors of a drive of the disk
pub can_deliver : (s : MeshStart) (p q : MeshPass) (disk bio : ℕ) (request : Request) (got : DeviceResult)
    (d : DriveView) → MakesStep s p q (steps.Take disk bio) (outcomes.Asked request) → HasSizesOf s disk d
    → IsTrue (fits_request d.sector request got) → CanDeliver s q bio got
can_deliver s p q disk bio request got d made of fits = record {
  earlier = p.own;
  disk = disk;
  request = request;
  own = subst (λ n. q.own ≡ p.own ++ entry_of n (steps.Take disk bio) (outcomes.Asked request) ∷ [])
      (sym made.goes.same.number) made.goes.own;
  fits = subst (λ o. IsSomeAnd o (λ (sizes : ℕ × ℕ). IsTrue (fits_request sizes.0 request got))) (sym of) fits;
}

-- a pass that took a bio and delivered it went on by these two entries
pub goes_two : (s : MeshStart) (p q r : MeshPass) (disk bio : ℕ) (request : Request) (got : DeviceResult)
    → MakesStep s p q (steps.Take disk bio) (outcomes.Asked request)
    → MakesStep s q r (steps.Deliver bio got) outcomes.Delivered
    → Goes p r (entry_of p.number (steps.Take disk bio) (outcomes.Asked request)
    ∷ entry_of p.number (steps.Deliver bio got) outcomes.Delivered ∷ [])
goes_two s p q r disk bio request got took delivered =
    goes_join p q r (entry_of p.number (steps.Take disk bio) (outcomes.Asked request) ∷ [])
    (entry_of p.number (steps.Deliver bio got) outcomes.Delivered ∷ []) took.goes
    (subst (λ n. Goes q r (entry_of n (steps.Deliver bio got) outcomes.Delivered ∷ [])) took.goes.same.number
    delivered.goes)

-- The answer

-- the answer to a Deliver that can be made
abbrev pub OnlyDelivers : Tried → Type 0
OnlyDelivers (tries.Made o) = o ≡ outcomes.Delivered
OnlyDelivers _ = ⊥

-- an answer by which a step isn't enabled
not_both : (a : Answer) (found : Found) → IsTrue (is_ok a) → a ≡ Err found → ⊥
not_both (Ok made) found ok is = let bad : ⊥ = cc in bad
not_both (Err other) found ok is = let bad : ⊥ = cc in bad

-- the Deliver is enabled at all that the pass has seen
enabled_now : (y : YardView MeshStart) (p q : MeshPass) (bio : ℕ) (got : DeviceResult) → IsPassOf y p
    → CanDeliver y.start p bio got → Goes p q [] → IsGoodPass q
    → IsTrue (is_enabled (replay (opened_by y.start) q.seen) p.number (steps.Deliver bio got))
enabled_now y p q bio got of can goes good =
    taken_can_be_answered s.plan s.facts history.plan.begins history.facts q.seen history.lawful.0 last.earlier
    last.later e can.disk bio can.request asked.header got last.split refl refl
    (All-from_recursion (λ (x : Entry). x.seat ≢ p.number) last.later last.others) asked.at fits
  where
    s : MeshStart
    s = y.start

    e : Entry
    e = entry_of p.number (steps.Take can.disk bio) (outcomes.Asked can.request)

    history : IsHistory (mesh_of s q.seen)
    history = history_of y q (still_of y p q [] of goes) good

    own : filter (is_of p.number) q.seen ≡ can.earlier ++ e ∷ []
    own =
        subst (λ n. entries_with_seat (λ (x : Entry). x.seat) n q.seen ≡ q.own) goes.same.number good.good.own_seen
        ∙ (goes.own ∙ (append-nil p.own ∙ can.own))

    last : StandsLast p.number q.seen e
    last = last_of p.number q.seen can.earlier e own

    asked : IsAskedAt s can.disk can.request
    asked = asked_at s q.seen last.earlier last.later e can.disk bio can.request history last.split refl refl

    fits : IsTrue (fits_request asked.header.sector can.request got)
    fits =
        let it : IsTrue (fits_request asked.sizes.0 can.request got) =
        subst (λ o. IsSomeAnd o (λ (n : ℕ × ℕ). IsTrue (fits_request n.0 can.request got))) asked.sizes_are can.fits in
        subst (λ n. IsTrue (fits_request n can.request got)) (sym asked.sector_is) it

-- so it is made
pub only_delivers : (y : YardView MeshStart) (p q : MeshPass) (bio : ℕ) (got : DeviceResult) (t : Tried)
    → IsPassOf y p → CanDeliver y.start p bio got → IsGoodPass q → DidTry y.start p q (steps.Deliver bio got) t
    → OnlyDelivers t
only_delivers y p q bio got (tries.Made o) of can good did = delivers_deliver y.start p q bio got o did
only_delivers y p q bio got (tries.NotEnabled found) of can good did =
    not_both (step (replay (opened_by y.start) q.seen) p.number (steps.Deliver bio got)) found
    (enabled_now y p q bio got of can did.0 good) did.1
only_delivers y p q bio got tries.LogFull of can good did =
    let w : World = replay (opened_by y.start) q.seen in
    let history : IsHistory (mesh_of y.start q.seen) = history_of y q (still_of y p q [] of did.0) good in
    both_ways (is_full q.seen w p.number (steps.Deliver bio got))
    (deliver-is_full q.seen w p.number bio got history.lawful.1) did.1
only_delivers y p q bio got tries.NoMemory of can good did =
    let w : World = replay (opened_by y.start) q.seen in
    both_ways (is_sure w p.number (steps.Deliver bio got)) did.1
    (delivers_are_sure w p.number bio got (enabled_now y p q bio got of can did.0 good))
