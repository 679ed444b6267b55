-- What the ledger says of a legal log: requests complete once, and at rest all are complete.
use Rattle.std.specs.Prelude.{◌≡◌, ℕ, suc, ◌≤◌, ◌==◌, Bool, true, false, List, [], ◌∷◌, ◌++◌, length, filter, find, count_by, Option, Some, None, Ok, MatchOption, All}
use Rattle.std.specs.List.{AllByRecursion, list_any, list_all}
use Rattle.std.proofs.Common.{refl, sym, ◌∙◌, ap, subst, arith, append-nil}
use Rattle.std.proofs.lemmas.Bool.{and_parts, both_ways, eq-eqb, eqb-true}
use Rattle.std.proofs.Math.Numerals.{suc-eq-add-one}
use Rattle.std.proofs.lemmas.List.{append_assoc, length-append, nil_from_length}
use Rattle.std.proofs.lemmas.List.Elements.{All-contains, All-map, recursion_from_All}
use Rattle.std.proofs.lemmas.List.Sums.{length-filter}
use Rattle.geo_model.proofs.BioLemmas.{phase_sent}
use Rattle.geo_model.specs.declared.step.Entry.{Entry}
use Rattle.geo_model.specs.declared.step.Outcome.TheVariants as outcomes
use Rattle.geo_model.specs.declared.step.Phase.TheVariants as phases
use Rattle.geo_model.specs.declared.step.Step.{Step}
use Rattle.geo_model.specs.declared.step.Step.TheVariants as steps
use Rattle.geo_model.specs.World.{World, Bio, Plan, bio_at}
use Rattle.geo_model.specs.Step.{step}
use Rattle.geo_model.specs.Fitting.{Firm}
use Rattle.geo_model.specs.Plans.{MayBegin, FactsFit}
use Rattle.geo_model.specs.Opening.{opening}
use Rattle.geo_model.specs.Order.{Rest, is_at_rest}
use Rattle.geo_model.specs.Log.{IsMade, Legal, Moment, after_entry, moments, replay}
use Rattle.geo_model.specs.Results.{entries_of, is_take_of}
use Rattle.geo_model.specs.History.{Acceptance, CompletesOnce, RequestsCompleteOnce, is_reply_to}
use Rattle.geo_model.specs.Laws.{LegalLogsKeepAll, OfEachLegalLog, RestIsComplete}
use Rattle.geo_laws_graph.proofs.Living.{all_members}
use Rattle.geo_laws_graph.proofs.Members.{find-Contains}
use Rattle.geo_laws_graph.proofs.Numbered.{filter-pushed_hit, number_found}
use Rattle.geo_laws_bios.proofs.Items.{none_kept}
use Rattle.geo_laws_steps.proofs.AnsweredLogs.{appends_are_answered, opens_are_answered}
use Rattle.geo_laws_steps.proofs.FreedLogs.{legal_logs_free_only_idle}
use Rattle.geo_laws_steps.proofs.Logs.{legal_logs_stay_sound, opened_firm}
use Rattle.geo_laws_steps.proofs.Stepped.{steps_stay_firm}
use Rattle.geo_laws_requests.specs.Histories.{Never}
use Rattle.geo_laws_requests.proofs.Looks.{entries_of_both}
use Rattle.geo_laws_requests.proofs.Entries.{entries_are_moments}
use Rattle.geo_laws_requests.specs.Ledger.{AcceptsAreAccounted, IsAccounted, IsCompleted, IsLogged, IsOnItsWay, Ledger, SoFar}
use Rattle.geo_laws_requests.proofs.Accounted.{count_past}
use Rattle.geo_laws_requests.proofs.Named.{takes_it}
use Rattle.geo_laws_requests.proofs.Replies.{reply_is}
use Rattle.geo_laws_requests.specs.RequestLaws.{BiosAreTakenOnce, LegalLogsCompleteRequests}
use Rattle.geo_laws_requests.proofs.Along.{entry_made, ledger_after, ledger_along}
use Rattle.geo_laws_requests.proofs.Opened.{opened_ledger}

-- the ledger after a legal log of a plan
ledger_of : (plan : Plan) (facts : List (ℕ × ℕ)) → MayBegin plan → FactsFit plan facts → (log : List Entry)
    → Legal (opening plan facts) log → Ledger (moments (opening plan facts) log) (replay (opening plan facts) log)
ledger_of plan facts is fit log legal =
    ledger_along [] (opening plan facts) log (opened_ledger plan facts) (opened_firm plan facts is fit) legal

-- the entries of the moments of a log are those of the log
pub entries_back : (w : World) (log : List Entry) → entries_of (moments w log) ≡ log
entries_back w [] = refl
entries_back w (e ∷ log) = ap (λ es. e ∷ es) (entries_back (after_entry w e) log)

-- where no entry is a reply to a bio, none is counted
none_counted : (b : ℕ) (es : List Entry) → AllByRecursion (λ (e : Entry). is_reply_to b e ≡ false) es
    → count_by (is_reply_to b) es ≡ 0
none_counted b [] none = refl
none_counted b (e ∷ es) none = rw none.0 (none_counted b es none.1)

-- where none is, it isn't that some is
none_any : (b : ℕ) (es : List Entry) → AllByRecursion (λ (e : Entry). is_reply_to b e ≡ false) es
    → list_any (is_reply_to b) es ≡ false
none_any b [] none = refl
none_any b (e ∷ es) none = rw none.0 (none_any b es none.1)

-- where no entry is the Take of a bio, none is counted
untaken : (b : ℕ) (h : List Moment) → Never (is_take_of b) h
    → count_by (λ (x : Entry). is_take_of b x.step) (entries_of h) ≡ 0
untaken b h never =
    sym (length-filter (λ (x : Entry). is_take_of b x.step) (entries_of h))
    ∙ ap (λ es. length es)
    (none_kept (λ (x : Entry). is_take_of b x.step) (entries_of h)
    (recursion_from_All (λ (x : Entry). is_take_of b x.step ≡ false) (entries_of h)
    (All-map (λ (x : Entry). is_take_of b x.step ≡ false) (λ (m : Moment). m.entry) h never)))

-- one entry more that passes is counted
count_hit : {X : Type 0} (test : X → Bool) (xs : List X) (y : X) → test y ≡ true
    → count_by test (xs ++ y ∷ []) ≡ suc (count_by test xs)
count_hit test xs y passes =
    sym (length-filter test (xs ++ y ∷ []))
    ∙ ap (λ zs. length zs) (filter-pushed_hit test xs y passes)
    ∙ length-append (filter test xs) (y ∷ [])
    ∙ sym (suc-eq-add-one (length (filter test xs)))
    ∙ ap suc (length-filter test xs)

-- a bio without a reply completes at most once
completes_unreplied : (h : List Moment) (a : Acceptance)
    → All (λ e. is_reply_to a.bio e ≡ false) (entries_of h) → CompletesOnce (entries_of h) h a
completes_unreplied h a none = record {
  at_most_once =
      let zero_of : count_by (is_reply_to a.bio) (entries_of h) ≡ 0 =
      none_counted a.bio (entries_of h) (recursion_from_All (λ e. is_reply_to a.bio e ≡ false) (entries_of h) none) in
      omega (arith, zero_of);
  reply = λ e line given here up is.
      absurd (both_ways (is_reply_to a.bio e)
      (All-contains (λ e. is_reply_to a.bio e ≡ false) (entries_of h) e none here)
      (reply_is a.bio e line given up is));
  covers = λ any.
      absurd (both_ways (list_any (is_reply_to a.bio) (entries_of h))
      (none_any a.bio (entries_of h)
      (recursion_from_All (λ e. is_reply_to a.bio e ≡ false) (entries_of h) none)) any);
}

-- what is accounted for completes at most once
completes : (h : List Moment) (w : World) (a : Acceptance) → Ledger h w → IsAccounted h w a
    → CompletesOnce (entries_of h) h a
completes h w a ledger was = by (bio_at w a.bio) refl was.stands
  where
    by : (o : Option Bio) → bio_at w a.bio ≡ o → MatchOption o (IsCompleted h a) (IsOnItsWay w a)
        → CompletesOnce (entries_of h) h a
    by None at done = done.completes
    by (Some x) at way =
        let its : x.number ≡ a.bio = number_found (λ (y : Bio). y.number) w.bios a.bio x at in
        let logged : IsLogged h w x =
        All-contains (IsLogged h w) w.bios x ledger.live (find-Contains (λ (y : Bio). y.number == a.bio) w.bios x at) in
        completes_unreplied h a
        (subst (λ n. All (λ e. is_reply_to n e ≡ false) (entries_of h)) its
        (All-map (λ e. is_reply_to x.number e ≡ false) (λ m. m.entry) h logged.unreplied))

-- each request completes at most once
requests_complete_once : OfEachLegalLog RequestsCompleteOnce
requests_complete_once plan facts is fit log legal =
    entries_are_moments w log Once (all_members (AcceptsAreAccounted h v) (λ m. Once m.before m.entry) h
    (λ m here was line b accepts.
    subst (λ es. CompletesOnce es h (record { world = after_entry m.before m.entry; line = line; bio = b }))
    (entries_back w log)
    (completes h v (record { world = after_entry m.before m.entry; line = line; bio = b }) ledger
    (was line b accepts))) ledger.accepted)
  where
    w : World
    w = opening plan facts

    h : List Moment
    h = moments w log

    v : World
    v = replay w log

    ledger : Ledger h v
    ledger = ledger_of plan facts is fit log legal

    Once : World → Entry → Type 0
    Once u e = (line b : ℕ) → e.outcome ≡ outcomes.Accepted line b
        → CompletesOnce log h (record { world = after_entry u e; line = line; bio = b })

-- at rest there is no bio
rest_none : (w : World) → Rest w → w.bios ≡ []
unfolding is_at_rest
rest_none w rest =
    let second = (and_parts (list_all (λ rest. length rest == 0) w.actors) _ rest).1 in
    nil_from_length w.bios (eqb-true (length w.bios) 0 (and_parts (length w.bios == 0) _ second).0)

-- at rest each is complete
rest_is_complete : RestIsComplete
rest_is_complete plan facts is fit log legal rest =
    entries_are_moments w log Answered (all_members (AcceptsAreAccounted h v) (λ m. Answered m.before m.entry) h
    (λ m here was line b accepts.
    let gone : bio_at v b ≡ None = ap (λ xs. find (λ (x : Bio). x.number == b) xs) (rest_none v rest) in
    let a : Acceptance = record { world = after_entry m.before m.entry; line = line; bio = b } in
    let done : IsCompleted h a =
    subst (λ o. MatchOption o (IsCompleted h a) (IsOnItsWay v a)) gone (was line b accepts).stands in
    subst (λ es. count_by (is_reply_to b) es ≡ 1) (entries_back w log) done.replied) ledger.accepted)
  where
    w : World
    w = opening plan facts

    h : List Moment
    h = moments w log

    v : World
    v = replay w log

    ledger : Ledger h v
    ledger = ledger_of plan facts is fit log legal

    Answered : World → Entry → Type 0
    Answered u e = (line b : ℕ) → e.outcome ≡ outcomes.Accepted line b → count_by (is_reply_to b) log ≡ 1

-- all that a history keeps
legal_logs_keep_all : LegalLogsKeepAll
legal_logs_keep_all plan facts is fit log legal = record {
  history = legal_logs_stay_sound plan facts is fit log legal;
  opens = opens_are_answered plan facts is fit log legal;
  appends = appends_are_answered plan facts is fit log legal;
  requests = requests_complete_once plan facts is fit log legal;
  freed = legal_logs_free_only_idle plan facts is fit log legal;
}

-- Taken once

-- one entry more: a bio that is taken was never taken before
taken_after : (h : List Moment) (w : World) (e : Entry) → Ledger h w → IsMade w e → (b : ℕ)
    → count_by (λ x. is_take_of b x.step) (entries_of h) ≤ 1
    → count_by (λ x. is_take_of b x.step) (entries_of (h ++ record { before = w; entry = e } ∷ [])) ≤ 1
taken_after h w e ledger made b few = by e.step refl
  where
    m : Moment
    m = record { before = w; entry = e }

    past : is_take_of b e.step ≡ false
        → count_by (λ (x : Entry). is_take_of b x.step) (entries_of (h ++ m ∷ [])) ≤ 1
    past other =
        let same : count_by (λ (x : Entry). is_take_of b x.step) (entries_of (h ++ m ∷ []))
        ≡ count_by (λ (x : Entry). is_take_of b x.step) (entries_of h) =
        ap (λ es. count_by (λ (x : Entry). is_take_of b x.step) es) (entries_of_both h (m ∷ []))
        ∙ count_past (λ (x : Entry). is_take_of b x.step) (entries_of h) e other in
        omega (arith, same, few)

    taken : (disk : ℕ) → e.step ≡ steps.Take disk b
        → count_by (λ (x : Entry). is_take_of b x.step) (entries_of (h ++ m ∷ [])) ≤ 1
    taken disk is =
        let step_is : step w e.seat (steps.Take disk b) ≡ Ok (after_entry w e, e.outcome) =
        subst (λ s. step w e.seat s ≡ Ok (after_entry w e, e.outcome)) is (entry_made w e made) in
        let it = takes_it w (after_entry w e) e.seat disk b e.outcome step_is in
        let its : it.bio.number ≡ b = number_found (λ (y : Bio). y.number) w.bios b it.bio it.found in
        let so : SoFar h w it.bio phases.Sent =
        subst (SoFar h w it.bio) (phase_sent it.bio.phase it.can.sent)
        (All-contains (IsLogged h w) w.bios it.bio ledger.live
        (find-Contains (λ (y : Bio). y.number == b) w.bios it.bio it.found)).so_far in
        let never : Never (is_take_of b) h = subst (λ n. Never (is_take_of n) h) its so.1 in
        let none : count_by (λ (x : Entry). is_take_of b x.step) (entries_of h) ≡ 0 = untaken b h never in
        let grows : count_by (λ (x : Entry). is_take_of b x.step) (entries_of (h ++ m ∷ []))
        ≡ suc (count_by (λ (x : Entry). is_take_of b x.step) (entries_of h)) =
        ap (λ es. count_by (λ (x : Entry). is_take_of b x.step) es) (entries_of_both h (m ∷ []))
        ∙ count_hit (λ (x : Entry). is_take_of b x.step) (entries_of h) e (rw is (eq-eqb b b refl)) in
        omega (arith, none, grows)

    by : (s : Step) → e.step ≡ s
        → count_by (λ (x : Entry). is_take_of b x.step) (entries_of (h ++ m ∷ [])) ≤ 1
    by (steps.Take disk n) is = at (n == b) refl
      where
        at : (c : Bool) → (n == b) ≡ c
            → count_by (λ (x : Entry). is_take_of b x.step) (entries_of (h ++ m ∷ [])) ≤ 1
        at true same = taken disk (is ∙ ap (λ k. steps.Take disk k) (eqb-true n b same))
        at false other = past (rw is other)
    by s is = past (rw is refl)

-- along a legal log
taken_along : (h : List Moment) (w : World) (log : List Entry) → Ledger h w → Firm w → Legal w log → (b : ℕ)
    → count_by (λ x. is_take_of b x.step) (entries_of h) ≤ 1
    → count_by (λ x. is_take_of b x.step) (entries_of (h ++ moments w log)) ≤ 1
taken_along h w [] ledger firm legal b few =
    subst (λ k. count_by (λ (x : Entry). is_take_of b x.step) (entries_of k) ≤ 1) (sym (append-nil h)) few
taken_along h w (e ∷ log) ledger firm legal b few =
    subst (λ k. count_by (λ (x : Entry). is_take_of b x.step) (entries_of k) ≤ 1)
    (append_assoc h (record { before = w; entry = e } ∷ []) (moments (after_entry w e) log))
    (taken_along (h ++ record { before = w; entry = e } ∷ []) (after_entry w e) log
    (ledger_after h w e ledger firm legal.0) (steps_stay_firm w e.seat e.step firm) legal.1 b
    (taken_after h w e ledger legal.0 b few))

-- each bio is taken at most once
bios_are_taken_once : BiosAreTakenOnce
bios_are_taken_once plan facts is fit log legal b =
    subst (λ es. count_by (λ (x : Entry). is_take_of b x.step) es ≤ 1) (entries_back (opening plan facts) log)
    (taken_along [] (opening plan facts) log (opened_ledger plan facts) (opened_firm plan facts is fit) legal b
    (omega arith))

-- all of it
pub legal_logs_complete_requests : LegalLogsCompleteRequests
legal_logs_complete_requests = record {
  once = requests_complete_once;
  rest = rest_is_complete;
  taken = bios_are_taken_once;
  all = legal_logs_keep_all;
}
