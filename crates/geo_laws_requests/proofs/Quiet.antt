-- A step that names no bio keeps the ledger: the bios stay, or one arrives.
use Rattle.std.specs.Prelude.{◌≡◌, ℕ, ◌<◌, ◌≤◌, ◌==◌, true, false, List, [], ◌∷◌, ◌++◌, map, filter, find, Option, Some, None, Ok, IsSome, MatchOption, All, Contains, option_and_then}
use Rattle.std.proofs.Common.{refl, sym, ◌∙◌, ap, subst, inl, inr, arith}
use Rattle.std.proofs.lemmas.List.Elements.{All-append, All-contains, All-from_recursion}
use Rattle.geo_model.specs.declared.step.Entry.{Entry}
use Rattle.geo_model.specs.declared.step.Outcome.{Outcome}
use Rattle.geo_model.specs.declared.step.Owner.{Owner}
use Rattle.geo_model.specs.declared.step.Owner.TheVariants as owners
use Rattle.geo_model.specs.declared.step.Phase.TheVariants as phases
use Rattle.geo_model.specs.declared.step.Step.{Step}
use Rattle.geo_model.specs.World.{World, Bio, bio_at, children_of, is_child_of, is_root}
use Rattle.geo_model.specs.Step.{step}
use Rattle.geo_model.specs.Log.{Moment, after_entry, world_after}
use Rattle.geo_model.specs.Results.{device_answer_of, device_answer_in, request_of, entries_of, is_deliver_of}
use Rattle.geo_model.specs.History.{Acceptance}
use Rattle.geo_model.specs.Graph.{AreNumbers}
use Rattle.geo_laws_graph.proofs.Living.{all_members}
use Rattle.geo_laws_graph.proofs.Members.{find-Contains, has}
use Rattle.geo_laws_graph.proofs.Numbered.{at-new, at-others, filter-pushed, find-pushed}
use Rattle.geo_laws_requests.specs.Histories.{names_bio, Never, AnsweredAreTaken}
use Rattle.geo_laws_requests.specs.Arrivals.{BiosStay, BioArrives, AcceptsNone, AcceptsIt, StayOrArrive}
use Rattle.geo_laws_requests.proofs.Looks.{request_stays, entries_of_both}
use Rattle.geo_laws_steps.specs.WayLaws.{SameMap}
use Rattle.geo_laws_requests.specs.Covering.{SameMaps}
use Rattle.geo_laws_requests.specs.Ledger.{Ledger, IsLogged, IsAccounted, AcceptsAreAccounted, IsOnItsWay, IsCompleted, IsSameRequest, SoFar}
use Rattle.geo_laws_requests.proofs.Logged.{unnamed, never_so, no_reply, logged_stays}
use Rattle.geo_laws_requests.proofs.Accounted.{completed_stays, on_its_way_stays}

-- the moment of a step
abbrev pub moment_of : World → ℕ → Step → Outcome → Moment
moment_of w seat s o = record { before = w; entry = record { seat = seat; step = s; outcome = o } }

-- a step that names no bio
abbrev pub NamesNone : Step → Type 0
NamesNone s = (b : ℕ) → names_bio b s ≡ false

-- a graph maps each provider as it does
pub same_map : (w : World) (p : ℕ) → SameMap w.topology w.topology p
same_map w p = record { sizes = refl; sectors = λ o. refl; disks = refl }

-- with a moment that isn't the Deliver of a bio, its device answer is what it was
pub answer_before : (h : List Moment) (m : Moment) (b : ℕ) → is_deliver_of b m.entry.step ≡ false
    → device_answer_of (entries_of (h ++ m ∷ [])) b ≡ device_answer_of (entries_of h) b
answer_before h m b other =
    ap (λ log. device_answer_of log b) (entries_of_both h (m ∷ []))
    ∙ ap (λ o. option_and_then (λ (e : Entry). device_answer_in e.step) o)
    (find-pushed (λ (e : Entry). is_deliver_of b e.step) (entries_of h) m.entry other)

-- what a Take asked is still told
pub asked_before : (h : List Moment) (m : Moment) (b : ℕ) → IsSome (request_of (entries_of h) b)
    → IsSome (request_of (entries_of (h ++ m ∷ [])) b)
asked_before h m b some =
    let there = has (request_of (entries_of h) b) some in
    rw (request_stays h (m ∷ []) b there.item there.is) refl

-- where no Deliver is made each bio that was answered was taken before
pub taken_quietly : (h : List Moment) (m : Moment) → ((b : ℕ) → is_deliver_of b m.entry.step ≡ false)
    → AnsweredAreTaken h → AnsweredAreTaken (h ++ m ∷ [])
taken_quietly h m none taken b some =
    asked_before h m b (taken b (subst (λ o. IsSome o) (answer_before h m b (none b)) some))

-- numbers that are still to come aren't named
pub fresh_quietly : (h : List Moment) (m : Moment) (low high : ℕ) → low ≤ high → NamesNone m.entry.step
    → ((b : ℕ) → low ≤ b → Never (names_bio b) h) → (b : ℕ) → high ≤ b → Never (names_bio b) (h ++ m ∷ [])
fresh_quietly h m low high more none fresh b above =
    never_so (names_bio b) h m (fresh b (omega arith)) (none b)

-- a bio that arrives is no child
arrives_no_child : (y : Bio) (n : ℕ) → is_root y.owner ≡ true → is_child_of y.owner n ≡ false
arrives_no_child y n root = by y.owner root
  where
    by : (o : Owner) → is_root o ≡ true → is_child_of o n ≡ false
    by (owners.Line handle line) e = refl
    by owners.Taste e = refl
    by (owners.Child parent index) e = absurd (let bad : ⊥ = cc in bad)

-- a bio that stands is the request that it is
itself : (x : Bio) → IsSameRequest x x
itself x = record { cmd = refl; offset = refl; len = refl; bytes = refl; target = refl }

-- an acceptance whose bio isn't named is accounted for as it was
pub accounted_quietly : (h : List Moment) (m : Moment) (w v : World) (a : Acceptance) → AnsweredAreTaken h
    → SameMaps w v
    → names_bio a.bio m.entry.step ≡ false → w.next_bio ≤ v.next_bio → bio_at v a.bio ≡ bio_at w a.bio
    → IsAccounted h w a → IsAccounted (h ++ m ∷ []) v a
accounted_quietly h m w v a taken maps none more same was = record {
  made = omega (arith, was.made, more);
  stands = subst (λ o. MatchOption o (IsCompleted (h ++ m ∷ []) a) (IsOnItsWay v a)) (sym same)
      (by (bio_at w a.bio) refl was.stands);
}
  where
    by : (o : Option Bio) → bio_at w a.bio ≡ o → MatchOption o (IsCompleted h a) (IsOnItsWay w a)
        → MatchOption o (IsCompleted (h ++ m ∷ []) a) (IsOnItsWay v a)
    by None is done = completed_stays h m a taken none done
    by (Some x) is way =
        on_its_way_stays w v a x x refl (itself x)
        (All-contains (λ (y : Bio). SameMap w.topology v.topology y.target) w.bios x maps
        (find-Contains (λ (y : Bio). y.number == a.bio) w.bios x is)) way

-- a bio that is Down and was never named is logged
pub new_bio_logged : (h : List Moment) (w : World) (y : Bio) → y.phase ≡ phases.Down → Never (names_bio y.number) h
    → IsLogged h w y
new_bio_logged h w y down never = record {
  unreplied = weaker (λ m e. no_reply y.number m e);
  so_far = subst (SoFar h w y) (sym down) (
    weaker (λ m e. (unnamed y.number m.entry.step e).start),
    weaker (λ m e. (unnamed y.number m.entry.step e).take),
    weaker (λ m e. (unnamed y.number m.entry.step e).deliver),
  );
}
  where
    weaker : {Q : Moment → Type 0} → ((m : Moment) → names_bio y.number m.entry.step ≡ false → Q m) → All Q h
    weaker {Q} so = all_members (λ m. names_bio y.number m.entry.step ≡ false) Q h (λ m here e. so m e) never

module _ (h : List Moment) (w v : World) (seat : ℕ) (s : Step) (o : Outcome) (ledger : Ledger h w)
    (are : AreNumbers (map (λ (x : Bio). x.number) w.bios) w.next_bio) (none : NamesNone s)
    (made : step w seat s ≡ Ok (v, o)) (maps : SameMaps w v) where
  -- the moment of the step
  abbrev this : Moment
  this = moment_of w seat s o

  -- a bio that stands is logged as before, where its children are the same
  logged_as_before : (x : Bio) → Contains w.bios x → children_of v x.number ≡ children_of w x.number
      → IsLogged h w x → IsLogged (h ++ this ∷ []) v x
  logged_as_before x here same logged =
      logged_stays h this w v x
      (record {
        unnamed_by = none x.number;
        children = ap (λ xs. map (λ (y : Bio). y.number) xs) same;
        its_map = All-contains (λ (y : Bio). SameMap w.topology v.topology y.target) w.bios x maps here;
        taken = ledger.taken;
      }) logged

  -- the acceptances so far
  accounted_as_before : w.next_bio ≤ v.next_bio → ((b : ℕ) → b < w.next_bio → bio_at v b ≡ bio_at w b)
      → All (AcceptsAreAccounted (h ++ this ∷ []) v) h
  accounted_as_before more same =
      all_members (AcceptsAreAccounted h w) (AcceptsAreAccounted (h ++ this ∷ []) v) h
      (λ m here was line b accepts.
      let a : Acceptance = record { world = after_entry m.before m.entry; line = line; bio = b } in
      let old : IsAccounted h w a = was line b accepts in
      accounted_quietly h this w v a ledger.taken maps (none b) more (same b old.made) old) ledger.accepted

  -- the bios stay
  pub stays : BiosStay w v → AcceptsNone o → Ledger (h ++ this ∷ []) v
  stays stay accepts = record {
    fresh = fresh_quietly h this w.next_bio v.next_bio (omega (arith, stay.next)) none ledger.fresh;
    taken = taken_quietly h this (λ b. (unnamed b s (none b)).deliver) ledger.taken;
    live = subst (λ xs. All (IsLogged (h ++ this ∷ []) v) xs) (sym stay.bios)
        (all_members (IsLogged h w) (IsLogged (h ++ this ∷ []) v) w.bios
        (λ x here logged. logged_as_before x here
        (ap (λ xs. filter (λ (y : Bio). is_child_of y.owner x.number) xs) stay.bios) logged) ledger.live);
    accepted = All-append (AcceptsAreAccounted (h ++ this ∷ []) v) h (this ∷ [])
        (accounted_as_before (omega (arith, stay.next))
        (λ b below. ap (λ xs. find (λ (y : Bio). y.number == b) xs) stay.bios))
        (All-from_recursion (AcceptsAreAccounted (h ++ this ∷ []) v) (this ∷ [])
        ((λ line b is. absurd (accepts line b is)), tt));
  }

  -- what is found at a number after a bio arrived
  found_then : (y : Bio) → BioArrives w v y → (b : ℕ) → b < w.next_bio → bio_at v b ≡ bio_at w b
  found_then y come b below =
      ap (λ xs. find (λ (x : Bio). x.number == b) xs) come.bios
      ∙ at-others (λ (x : Bio). x.number) w.bios y b (λ same. absurd (omega (arith, same, come.number, below)))

  -- the bio that arrived is found
  found_new : (y : Bio) → BioArrives w v y → bio_at v y.number ≡ Some y
  found_new y come =
      ap (λ xs. find (λ (x : Bio). x.number == y.number) xs) come.bios
      ∙ ap (λ n. find (λ (x : Bio). x.number == n) (w.bios ++ y ∷ [])) come.number
      ∙ at-new (λ (x : Bio). x.number) w.next_bio w.bios y come.number are

  -- the children of another are the same
  children_then : (y : Bio) → BioArrives w v y → (n : ℕ) → children_of v n ≡ children_of w n
  children_then y come n =
      ap (λ xs. filter (λ (x : Bio). is_child_of x.owner n) xs) come.bios
      ∙ filter-pushed (λ (x : Bio). is_child_of x.owner n) w.bios y (arrives_no_child y n come.root)

  -- the world after the entry
  after : after_entry w this.entry ≡ v
  after = ap (λ answer. world_after w answer) made

  -- the bio that arrived is Down, and nothing was said of it
  logged_new : (y : Bio) → BioArrives w v y → IsLogged (h ++ this ∷ []) v y
  logged_new y come =
      new_bio_logged (h ++ this ∷ []) v y come.phase
      (fresh_quietly h this w.next_bio w.next_bio (omega arith) none ledger.fresh y.number (omega (arith, come.number)))

  -- the acceptance of the bio that arrived
  accounted_new : (y : Bio) → BioArrives w v y → AcceptsIt o y → AcceptsAreAccounted (h ++ this ∷ []) v this
  accounted_new y come of_line line b is =
      let its = of_line line b is in
      subst (λ n. IsAccounted (h ++ this ∷ []) v
      (record { world = after_entry w this.entry; line = line; bio = n })) (sym its.0)
      (record {
        made = omega (arith, come.next, come.number);
        stands = rw (found_new y come) (record {
          handle = its.1.0;
          owner = its.1.1;
          same = rw (after, found_new y come) (itself y);
          its_map = rw after (same_map v y.target);
        });
      })

  -- a bio arrives
  pub arrives : (y : Bio) → BioArrives w v y → AcceptsIt o y → Ledger (h ++ this ∷ []) v
  arrives y come of_line = record {
    fresh = fresh_quietly h this w.next_bio v.next_bio (omega (arith, come.next)) none ledger.fresh;
    taken = taken_quietly h this (λ b. (unnamed b s (none b)).deliver) ledger.taken;
    live = subst (λ xs. All (IsLogged (h ++ this ∷ []) v) xs) (sym come.bios)
        (All-append (IsLogged (h ++ this ∷ []) v) w.bios (y ∷ [])
        (all_members (IsLogged h w) (IsLogged (h ++ this ∷ []) v) w.bios
        (λ x here logged. logged_as_before x here (children_then y come x.number) logged) ledger.live)
        (All-from_recursion (IsLogged (h ++ this ∷ []) v) (y ∷ []) (logged_new y come, tt)));
    accepted = All-append (AcceptsAreAccounted (h ++ this ∷ []) v) h (this ∷ [])
        (accounted_as_before (omega (arith, come.next)) (found_then y come))
        (All-from_recursion (AcceptsAreAccounted (h ++ this ∷ []) v) (this ∷ []) (accounted_new y come of_line, tt));
  }

  -- either way
  pub quiet_keeps : StayOrArrive w v o → Ledger (h ++ this ∷ []) v
  quiet_keeps (inl stay) = stays stay.0 stay.1
  quiet_keeps (inr come) = arrives come.0 come.1.0 come.1.1
