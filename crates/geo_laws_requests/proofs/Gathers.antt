-- The Up of a child keeps the ledger: it is Done, and the last one brings up its parent with the joined result.
use Rattle.std.specs.Prelude.{◌≡◌, ◌≢◌, ℕ, ◌<◌, ◌≤◌, ◌==◌, ◌||◌, Bool, true, false, not, List, [], ◌∷◌, ◌++◌, map, filter, find, Option, Some, None, option_map, MatchOption, IsSomeAnd, All, Contains}
use Rattle.std.specs.List.{AllByRecursion}
use Rattle.std.proofs.Common.{refl, sym, ◌∙◌, ap, append-nil, subst, arith}
use Rattle.std.proofs.lemmas.Bool.{both_ways, eq-eqb, eqb-true, ne_eqb, not-true, or_left, and_right}
use Rattle.std.proofs.lemmas.List.Elements.{All-append, All-contains, All-filter, All-from_recursion, filter_passes, recursion_from_All}
use Rattle.geo_base.proofs.FindLists.{none_passes}
use Rattle.geo_model.proofs.BioLemmas.{phase_waiting}
use Rattle.geo_model.specs.declared.step.BioResult.{BioResult}
use Rattle.geo_model.specs.declared.step.Outcome.{Outcome}
use Rattle.geo_model.specs.declared.step.Outcome.TheVariants as outcomes
use Rattle.geo_model.specs.declared.step.Owner.{Owner}
use Rattle.geo_model.specs.declared.step.Owner.TheVariants as owners
use Rattle.geo_model.specs.declared.step.Phase.{Phase}
use Rattle.geo_model.specs.declared.step.Phase.TheVariants as phases
use Rattle.geo_model.specs.declared.step.Step.TheVariants as steps
use Rattle.geo_model.specs.World.{World, Bio, bio_at, change_number, children_of, is_child_of, is_done, is_up, is_waiting}
use Rattle.geo_model.specs.Bios.{complete_parent, is_complete, joined_result}
use Rattle.geo_model.specs.Steady.{ComesFromItsOwner}
use Rattle.geo_model.specs.Log.{Moment, after_entry}
use Rattle.geo_model.specs.Results.{leaves}
use Rattle.geo_model.specs.Fitting.{Firm}
use Rattle.geo_model.specs.History.{Acceptance, IsSuccess, is_reply, is_reply_to}
use Rattle.geo_model.proofs.DemandLemmas.{all_weaker}
use Rattle.geo_laws_graph.proofs.Lists.{changed, filter-changed, find-changed, found_nowhere, map-changed, numbers-kept}
use Rattle.geo_laws_graph.proofs.Living.{all_members}
use Rattle.geo_laws_graph.proofs.Members.{All-from_contained, Contains-map, at_contained, filter-Contains, find-Contains}
use Rattle.geo_laws_graph.proofs.Numbered.{at-here, at-unchanged, unique}
use Rattle.geo_laws_graph.proofs.Spared.{IsSpared, filter-spared, find-spared}
use Rattle.geo_laws_bios.specs.BioSteps.{turn}
use Rattle.geo_laws_bios.proofs.Items.{all_both, all_changed}
use Rattle.geo_laws_bios.proofs.Ascending.{apart, gathered, over, result, same_bios, same_results}
use Rattle.geo_laws_bios.proofs.Completing.{not_own_child, risen}
use Rattle.geo_laws_bios.proofs.Joined.{got}
use Rattle.geo_laws_maps.proofs.JoinedCovers.{joined_covers}
use Rattle.geo_laws_requests.specs.Histories.{names_bio}
use Rattle.geo_laws_requests.specs.Arrivals.{AcceptsNone}
use Rattle.geo_laws_requests.proofs.Finished.{finished_stay}
use Rattle.geo_laws_steps.specs.WayLaws.{SameMap}
use Rattle.geo_laws_requests.specs.Covering.{CoversThere, SameMaps}
use Rattle.geo_laws_requests.specs.Ledger.{AcceptsAreAccounted, HasResult, IsAccounted, IsCompleted, IsLogged, IsOnItsWay, Ledger, SoFar, WasSplit}
use Rattle.geo_laws_requests.proofs.Covered.{covers_request, covers_stay}
use Rattle.geo_laws_requests.proofs.Logged.{logged_stays, never_so}
use Rattle.geo_laws_requests.proofs.Accounted.{completed_stays, on_its_way_stays}
use Rattle.geo_laws_requests.proofs.Quiet.{moment_of, taken_quietly}
use Rattle.geo_laws_requests.proofs.Turning.{IsNewChild, turned_keeps}
use Rattle.geo_laws_requests.proofs.Starts.{in_phase, keeps_phase}
use Rattle.geo_laws_requests.proofs.Roots.{up_names_it}
use Rattle.geo_laws_requests.proofs.Gathered.{IsBack, children_cover, joined_now, leaves_now}

-- an Up that gathers is no reply to any bio
gather_unreplied : (h : List Moment) (m : Moment) (n : ℕ) → is_reply m.entry.outcome ≡ false
    → All (λ z. is_reply_to n z.entry ≡ false) h → All (λ z. is_reply_to n z.entry ≡ false) (h ++ m ∷ [])
gather_unreplied h m n no_reply none =
    All-append (λ z. is_reply_to n z.entry ≡ false) h (m ∷ []) none
    (All-from_recursion (λ z. is_reply_to n z.entry ≡ false) (m ∷ []) (and_right _ _ no_reply, tt))

-- the result of a bio that is Up
pub result_up : (h : List Moment) (w : World) (x : Bio) → IsLogged h w x → (is_up x.phase || is_done x.phase) ≡ true
    → IsBack h w x
result_up h w x logged over = by x.phase over logged.so_far
  where
    at : (o : Option BioResult) → x.result ≡ o → IsSomeAnd o (HasResult h w x) → IsBack h w x
    at None e has = absurd has
    at (Some r) e has = record { result = r; is = e; has = has }

    by : (p : Phase) → (is_up p || is_done p) ≡ true → SoFar h w x p → IsBack h w x
    by phases.Down e so = absurd (let bad : ⊥ = cc in bad)
    by phases.Sent e so = absurd (let bad : ⊥ = cc in bad)
    by (phases.Busy seat) e so = absurd (let bad : ⊥ = cc in bad)
    by phases.Waiting e so = absurd (let bad : ⊥ = cc in bad)
    by phases.Up e so = at x.result refl so
    by phases.Done e so = at x.result refl so

module _ (h : List Moment) (w v : World) (seat b : ℕ) (o : Outcome) (ledger : Ledger h w) (firm : Firm w)
    (x : Bio) (same : x.number ≡ b) (found : bio_at w x.number ≡ Some x) (up : is_up x.phase ≡ true)
    (parent : ℕ) (last : Bool) (gathers : o ≡ outcomes.Gathered parent last) (maps : SameMaps w v) where
  -- the moment of the step
  abbrev this : Moment
  this = moment_of w seat (steps.Up b) o

  -- it is no reply
  no_reply : is_reply this.entry.outcome ≡ false
  no_reply = rw gathers refl

  -- it accepts nothing
  accepts : AcceptsNone o
  accepts line n is =
      let bad : outcomes.Gathered parent last ≡ outcomes.Accepted line n = sym gathers ∙ is in
      (let wrong : ⊥ = cc in wrong)

  -- it names no other
  others : (n : ℕ) → n ≢ x.number → names_bio n (steps.Up b) ≡ false
  others n apart = up_names_it b n (λ e. apart (e ∙ sym same))

  -- what stood among the bios
  x_here : Contains w.bios x
  x_here = find-Contains (λ (z : Bio). z.number == x.number) w.bios x found

  -- a child that isn't the last is Done
  pub child_ends : v.bios ≡ change_number x.number (in_phase phases.Done) w.bios → v.next_bio ≡ w.next_bio
      → Ledger (h ++ this ∷ []) v
  child_ends bios next =
      turned_keeps h w v seat (steps.Up b) o ledger firm.bios.numbers x (in_phase phases.Done) []
      (record {
        keeps = keeps_phase phases.Done;
        found = found;
        bios = bios ∙ sym (append-nil (change_number x.number (in_phase phases.Done) w.bios));
        next = omega (arith, next);
        children = All-from_recursion (IsNewChild w v x) [] tt;
        others = others;
        accepts = accepts;
        maps = maps;
      }) (taken_quietly h this (λ n. refl) ledger.taken) logged_done
    where
      logged_done : IsLogged h w x → IsLogged (h ++ this ∷ []) v (in_phase phases.Done x)
      logged_done logged =
          let back = result_up h w x logged (or_left (is_up x.phase) (is_done x.phase) up) in
          record {
            unreplied = gather_unreplied h this x.number no_reply logged.unreplied;
            so_far = subst (λ z. IsSomeAnd z (HasResult (h ++ this ∷ []) v (in_phase phases.Done x)))
                (sym back.is) (record {
                  is = finished_stay.results h (this ∷ []) x.number back.result back.has.is;
                  covers = λ success.
                      rw (finished_stay.leaves h (this ∷ []) x.number back.result ledger.taken back.has.is)
                      (covers_request v x (in_phase phases.Done x) (leaves h x.number)
                      ((keeps_phase phases.Done).request x)
                      (covers_stay w v x (leaves h x.number)
                      (All-contains (λ (z : Bio). SameMap w.topology v.topology z.target) w.bios x maps x_here)
                      (back.has.covers success)));
                });
          }

  -- The last child

  module _ (y : Bio) (index : ℕ) (of_it : x.owner ≡ owners.Child y.number index) (there : bio_at w y.number ≡ Some y)
      (waits : is_waiting y.phase ≡ true)
      (complete : is_complete (turn w x phases.Done (λ r. r)) y.number ≡ true)
      (bios : v.bios ≡ (complete_parent (gathered w firm x y index found up of_it there waits complete) y).bios)
      (next : v.next_bio ≡ w.next_bio) where
    -- the result of the parent
    abbrev joined : BioResult
    joined = result w firm x y index found up of_it there waits complete

    -- whether a bio is a child of it, and whether it is the parent
    abbrev is_gone : Bio → Bool
    is_gone z = is_child_of z.owner y.number

    abbrev is_it : Bio → Bool
    is_it z = z.number == y.number

    -- the parent then
    abbrev up_then : Bio → Bio
    up_then = risen w y joined

    -- the bios that stay
    abbrev staying : List Bio
    staying = filter (λ (z : Bio). not (is_gone z)) w.bios

    -- the bios then
    bios_then : v.bios ≡ change_number y.number up_then staying
    bios_then = bios ∙ same_bios w firm x y index found up of_it there waits complete

    y_here : Contains w.bios y
    y_here = find-Contains is_it w.bios y there

    -- the parent is no child of its own
    not_own : is_gone y ≡ false
    not_own =
        not_own_child w y y.owner
        (All-contains (λ (z : Bio). ComesFromItsOwner w.handles w.taste z z.owner) w.bios y firm.bios.owners y_here)

    -- only the child has its number
    only_x : AllByRecursion (λ (z : Bio). (z.number == x.number) ≡ true → z ≡ x) w.bios
    only_x = unique (λ (z : Bio). z.number) w.next_bio x.number w.bios x firm.bios.numbers found

    -- a bio that stays isn't the child
    stays_apart : (z : Bio) → Contains w.bios z → is_gone z ≡ false → z.number ≢ x.number
    stays_apart z here stays it =
        let one : z ≡ x =
        at_contained (λ (q : Bio). (q.number == x.number) ≡ true → q ≡ x) w.bios z only_x here
        (rw it (eq-eqb x.number x.number refl)) in
        let gone : is_gone z ≡ true = rw (ap (λ (q : Bio). q.owner) one ∙ of_it) (eq-eqb y.number y.number refl) in
        both_ways (is_gone z) stays gone

    -- at the number of a bio that stays the same is found among those that stay
    found_staying : (n : ℕ) (z : Bio) → bio_at w n ≡ Some z → is_gone z ≡ false
        → find (λ (q : Bio). q.number == n) staying ≡ Some z
    found_staying n z at stays =
        find-spared is_gone (λ (q : Bio). q.number == n) w.bios
        (all_weaker (λ (q : Bio). (q.number == n) ≡ true → q ≡ z) (IsSpared is_gone (λ (q : Bio). q.number == n))
        (λ q one gone. spared q one gone (q.number == n) refl) w.bios
        (unique (λ (q : Bio). q.number) w.next_bio n w.bios z firm.bios.numbers at))
        ∙ at
      where
        spared : (q : Bio) → ((q.number == n) ≡ true → q ≡ z) → is_gone q ≡ true → (c : Bool) → (q.number == n) ≡ c
            → (q.number == n) ≡ false
        spared q one gone true e =
            absurd (both_ways (is_gone q) (ap (λ (k : Bio). is_gone k) (one e) ∙ stays) gone)
        spared q one gone false e = e

    -- where nothing was found nothing is found then
    found_none : (n : ℕ) → bio_at w n ≡ None → bio_at v n ≡ None
    found_none n none =
        ap (λ qs. find (λ (q : Bio). q.number == n) qs) bios_then
        ∙ find-changed (λ (q : Bio). q.number == y.number) up_then (λ (q : Bio). q.number == n) (λ q e. refl) staying
        ∙ ap (λ z. option_map (changed (λ (q : Bio). q.number == y.number) up_then) z) gone
      where
        gone : find (λ (q : Bio). q.number == n) staying ≡ None
        gone =
            found_nowhere (λ (q : Bio). q.number) n staying
            (recursion_from_All (λ (q : Bio). (q.number == n) ≡ false) staying
            (All-filter (λ (q : Bio). not (is_gone q)) (λ (q : Bio). (q.number == n) ≡ false) w.bios
            (All-from_recursion (λ (q : Bio). (q.number == n) ≡ false) w.bios
            (none_passes (λ (q : Bio). q.number == n) w.bios none))))

    -- the children of a bio that stays have the numbers that they had
    children_then : (n : ℕ) → n ≢ y.number
        → map (λ (q : Bio). q.number) (children_of v n) ≡ map (λ (q : Bio). q.number) (children_of w n)
    children_then n apart =
        ap (λ qs. map (λ (q : Bio). q.number) (filter (λ (q : Bio). is_child_of q.owner n) qs)) bios_then
        ∙ ap (λ qs. map (λ (q : Bio). q.number) qs)
        (filter-changed is_it up_then (λ (q : Bio). is_child_of q.owner n) (λ q e. refl) staying)
        ∙ map-changed is_it up_then (λ (q : Bio). q.number) (λ q e. refl)
        (filter (λ (q : Bio). is_child_of q.owner n) staying)
        ∙ ap (λ qs. map (λ (q : Bio). q.number) qs)
        (filter-spared is_gone (λ (q : Bio). is_child_of q.owner n) w.bios
        (all_so (IsSpared is_gone (λ (q : Bio). is_child_of q.owner n)) (λ q gone. other q.owner gone) w.bios))
      where
        all_so : (P : Bio → Type 0) → ((q : Bio) → P q) → (qs : List Bio) → AllByRecursion P qs
        all_so P so [] = tt
        all_so P so (q ∷ qs) = (so q, all_so P so qs)

        other : (w : Owner) → is_child_of w y.number ≡ true → is_child_of w n ≡ false
        other (owners.Line handle line) gone = refl
        other owners.Taste gone = refl
        other (owners.Child p k) gone =
            ne_eqb p n (λ it. apart (sym it ∙ eqb-true p y.number gone))

    -- what the history tells of the parent
    split : WasSplit h w y
    split = subst (SoFar h w y) (phase_waiting y.phase waits)
        (All-contains (IsLogged h w) w.bios y ledger.live y_here).so_far

    -- its children are back
    back : All (IsBack h w) (children_of w y.number)
    back =
        All-from_recursion (IsBack h w) (children_of w y.number)
        (All-from_contained (IsBack h w) (children_of w y.number) (λ c here.
        let stands = filter-Contains is_gone w.bios c here in
        result_up h w c (All-contains (IsLogged h w) w.bios c ledger.live stands.0)
        (over w firm x y index found up of_it there waits complete c here)))

    -- the parent has the joined result
    logged_up : IsLogged h w y → IsLogged (h ++ this ∷ []) v (up_then y)
    logged_up logged = record {
      unreplied = gather_unreplied h this y.number no_reply logged.unreplied;
      so_far = record {
        is = joined_now h this w ledger.taken y split back ∙ ap (λ r. Some r) (sym is_joined);
        covers = λ success.
            covers_request v y (up_then y) (leaves (h ++ this ∷ []) y.number)
            (record { cmd = refl; offset = refl; len = refl; bytes = refl; target = refl })
            (covers_stay w v y (leaves (h ++ this ∷ []) y.number)
            (All-contains (λ (z : Bio). SameMap w.topology v.topology z.target) w.bios y maps y_here)
            (subst (λ ls. CoversThere w y ls) (sym (leaves_now h this w ledger.taken y split back))
            (joined_covers w y (λ c. leaves h c.number) firm y_here waits
            (children_cover h this w ledger.taken y split back (subst IsSuccess is_joined success)))));
      };
    }
      where
        is_joined : joined ≡ joined_result y.cmd (map got (children_of w y.number))
        is_joined = ap (λ rs. joined_result y.cmd rs)
            (same_results w firm x y index found up of_it there waits complete)

    -- another bio that stays
    logged_other : (z : Bio) → Contains w.bios z → is_gone z ≡ false → (z.number == y.number) ≡ false → IsLogged h w z
        → IsLogged (h ++ this ∷ []) v z
    logged_other z here stays other logged =
        logged_stays h this w v z
        (record {
          unnamed_by = others z.number (stays_apart z here stays);
          children = children_then z.number
              (λ it. both_ways (z.number == y.number) other (rw it (eq-eqb y.number y.number refl)));
          its_map = All-contains (λ (q : Bio). SameMap w.topology v.topology q.target) w.bios z maps here;
          taken = ledger.taken;
        }) logged

    -- each bio that stays
    live_then : All (IsLogged (h ++ this ∷ []) v) v.bios
    live_then =
        subst (λ qs. All (IsLogged (h ++ this ∷ []) v) qs) (sym bios_then)
        (all_changed (λ (z : Bio). z.number) up_then w.next_bio staying y
        (numbers-kept (λ (z : Bio). z.number) (λ (z : Bio). not (is_gone z)) w.next_bio w.bios firm.bios.numbers)
        (found_staying y.number y there not_own)
        (IsLogged (h ++ this ∷ []) v) Known
        (λ known. logged_up known.0.1)
        (λ z other known. logged_other z known.0.0 (not-true (is_gone z) known.1) other known.0.1)
        (all_both (λ z. Contains w.bios z × IsLogged h w z) (λ z. not (is_gone z) ≡ true) staying
        (All-filter (λ (z : Bio). not (is_gone z)) (λ z. Contains w.bios z × IsLogged h w z) w.bios
        (all_members (IsLogged h w) (λ z. Contains w.bios z × IsLogged h w z) w.bios (λ z here is. (here, is))
        ledger.live))
        (filter_passes (λ (z : Bio). not (is_gone z)) w.bios)))
      where
        Known : Bio → Type 0
        Known z = (Contains w.bios z × IsLogged h w z) × (not (is_gone z) ≡ true)

    -- an acceptance is accounted for as it was: its bio is no child
    accounted_then : (a : Acceptance) → IsAccounted h w a → IsAccounted (h ++ this ∷ []) v a
    accounted_then a was = record {
      made = omega (arith, was.made, next);
      stands = by (bio_at w a.bio) refl was.stands;
    }
      where
        line_stays : (z : Bio) → IsOnItsWay w a z → is_gone z ≡ false
        line_stays z way = ap (λ owner. is_child_of owner y.number) way.owner

        at_it : (z : Bio) → bio_at w a.bio ≡ Some z → IsOnItsWay w a z → (c : Bool) → (a.bio == y.number) ≡ c
            → MatchOption (bio_at v a.bio) (IsCompleted (h ++ this ∷ []) a) (IsOnItsWay v a)
        at_it z at way true e =
            let it : a.bio ≡ y.number = eqb-true a.bio y.number e in
            let one : z ≡ y = let here : bio_at w a.bio ≡ Some y = ap (λ n. bio_at w n) it ∙ there in cc in
            let now : bio_at v a.bio ≡ Some (up_then y) =
            ap (λ n. bio_at v n) it ∙ ap (λ qs. find is_it qs) bios_then
            ∙ at-here (λ (q : Bio). q.number) up_then (λ q. refl) y.number staying y
            (found_staying y.number y there not_own) in
            let its_way : IsOnItsWay w a y = subst (IsOnItsWay w a) one way in
            rw now
            (on_its_way_stays w v a y (up_then y) refl
            (record { cmd = refl; offset = refl; len = refl; bytes = refl; target = refl })
            (All-contains (λ (q : Bio). SameMap w.topology v.topology q.target) w.bios y maps y_here) its_way)
        at_it z at way false e =
            let apart : a.bio ≢ y.number =
            (λ it. both_ways (a.bio == y.number) e (rw it (eq-eqb y.number y.number refl))) in
            let now : bio_at v a.bio ≡ Some z =
            ap (λ qs. find (λ (q : Bio). q.number == a.bio) qs) bios_then
            ∙ at-unchanged (λ (q : Bio). q.number) up_then (λ q. refl) y.number a.bio apart staying
            ∙ found_staying a.bio z at (line_stays z way) in
            rw now
            (on_its_way_stays w v a z z refl
            (record { cmd = refl; offset = refl; len = refl; bytes = refl; target = refl })
            (All-contains (λ (q : Bio). SameMap w.topology v.topology q.target) w.bios z maps
            (find-Contains (λ (q : Bio). q.number == a.bio) w.bios z at)) way)

        by : (z : Option Bio) → bio_at w a.bio ≡ z → MatchOption z (IsCompleted h a) (IsOnItsWay w a)
            → MatchOption (bio_at v a.bio) (IsCompleted (h ++ this ∷ []) a) (IsOnItsWay v a)
        by None at done =
            rw (found_none a.bio at)
            (completed_stays h this a ledger.taken
            (others a.bio (λ it. let here : bio_at w a.bio ≡ Some x = ap (λ n. bio_at w n) it ∙ found in
            (let bad : ⊥ = cc in bad))) done)
        by (Some z) at way = at_it z at way (a.bio == y.number) refl

    -- the ledger goes on
    pub last_child_ends : Ledger (h ++ this ∷ []) v
    last_child_ends = record {
      fresh = λ n above.
          never_so (names_bio n) h this (ledger.fresh n (omega (arith, next, above)))
          (others n (λ it. to_come n (omega (arith, next, above)) it));
      taken = taken_quietly h this (λ n. refl) ledger.taken;
      live = live_then;
      accepted = All-append (AcceptsAreAccounted (h ++ this ∷ []) v) h (this ∷ [])
          (all_members (AcceptsAreAccounted h w) (AcceptsAreAccounted (h ++ this ∷ []) v) h
          (λ m here was line n is. accounted_then
          (record { world = after_entry m.before m.entry; line = line; bio = n }) (was line n is)) ledger.accepted)
          (All-from_recursion (AcceptsAreAccounted (h ++ this ∷ []) v) (this ∷ [])
          ((λ line n is. absurd (accepts line n is)), tt));
    }
      where
        to_come : (n : ℕ) → w.next_bio ≤ n → n ≢ x.number
        to_come n above it =
            let below : x.number < w.next_bio =
            All-contains (λ k. k < w.next_bio) (map (λ (z : Bio). z.number) w.bios) x.number firm.bios.numbers.1
            (Contains-map (λ (z : Bio). z.number) w.bios x x_here) in
            absurd (omega (arith, it, above, below))
