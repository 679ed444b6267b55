-- What a Yes means, and that it is said of the trace of a legal log that ends at rest.
use Rattle.std.proofs.Common.{◌≡◌, ℕ, ◌+◌, ◌≤◌, nat_lt, Bool, true, false, not, List, [], ◌∷◌, length, Some, None, Ok, bytes_eq, if◌then◌else◌, refl, sym, ◌∙◌, ap, subst, arith, le-ltb, ltb-false}
use Rattle.std.proofs.lemmas.List.{length-map}
use Rattle.std.proofs.lemmas.Slice.Eq.{bytes_eq-Decides}
use Rattle.geo_model.specs.declared.step.Entry.{Entry}
use Rattle.geo_model.specs.declared.step.Step.{Step}
use Rattle.geo_model.specs.World.{World}
use Rattle.geo_model.specs.Opening.{opening}
use Rattle.geo_model.specs.Step.{step}
use Rattle.geo_model.specs.Log.{made, replay, world_after}
use Rattle.geo_model.specs.Order.{Rest, is_at_rest}
use Rattle.geo_model.specs.Report.{report}
use Rattle.geo_laws_traces.specs.TraceLaws.{YesIsVerified, LegalIsVerified}
use Rattle.geo_headline.specs.Traces.{Trace, ReadTrace, read_trace, steps_of}
use Rattle.geo_headline.specs.Verifying.{verified, found_of, found_unless, found_read, opened_of, log_of, IsVerified}
use Rattle.geo_headline.specs.declared.verified.Verified.TheVariants as found
use Rattle.geo_laws_traces.proofs.MadeAgain.{made_again}

-- the answer to a text that was read
answer_is : (text : List ℕ) (r : ReadTrace) → read_trace text ≡ Ok r → verified text ≡ Ok (found_of r)
unfolding verified
answer_is text r is = ap found_read is

-- steps make no more entries than they are
made_short : (w : World) (items : List (ℕ × Step)) → length (made w items) ≤ length items
made_short w [] = omega arith
made_short w (item ∷ items) = grind (arith, made_short (world_after w (step w item.0 item.1)) items)

-- a whole log at rest with the same report finds a Yes
finds_yes : (r : ReadTrace) → IsVerified r.trace → found_of r ≡ found.Yes
finds_yes r is =
    let whole : nat_lt (length (log_of r.trace)) (length r.trace.steps) ≡ false =
    le-ltb (length (log_of r.trace)) (length r.trace.steps) (omega (arith, is.whole)) in
    let rest : is_at_rest (replay (opened_of r.trace) (log_of r.trace)) ≡ true = is.rest in
    let same : bytes_eq (report r.trace.plan (opened_of r.trace) (log_of r.trace)) r.trace.report ≡ true =
    (bytes_eq-Decides (report r.trace.plan (opened_of r.trace) (log_of r.trace)) r.trace.report).1 is.same in
    rw (whole, rest, same) refl

-- what is found is a Yes where no step stops, at rest, with the same report
yes_by : (stops rest same : Bool) (n : ℕ)
    → found_unless (if stops then Some n else None)
    (if not rest then found.NotAtRest else (if same then found.Yes else found.OtherReport)) ≡ found.Yes
    → (stops ≡ false) × (rest ≡ true) × (same ≡ true)
yes_by false true true n e = (refl, refl, refl)
yes_by stops rest same n e = absurd (let bad : ⊥ = cc in bad)

-- so a Yes is found of no other
yes_found : (r : ReadTrace) → found_of r ≡ found.Yes → IsVerified r.trace
yes_found r is =
    let its_report : List ℕ = report r.trace.plan (opened_of r.trace) (log_of r.trace) in
    let tests = yes_by (nat_lt (length (log_of r.trace)) (length r.trace.steps))
    (is_at_rest (replay (opened_of r.trace) (log_of r.trace))) (bytes_eq its_report r.trace.report)
    (r.line + length (log_of r.trace)) is in
    let long = ltb-false (length (log_of r.trace)) (length r.trace.steps) tests.0 in
    let short = made_short (opened_of r.trace) r.trace.steps in
    record {
      whole = omega (arith, long, short);
      rest = tests.1;
      same = (bytes_eq-Decides its_report r.trace.report).0 tests.2;
    }

pub yes_is_verified : YesIsVerified
yes_is_verified text t is =
    let r : ReadTrace = record { trace = t; line = is.0 } in
    let answer : verified text ≡ Ok (found_of r) = answer_is text r is.1 in
    record {
      says = λ yes. let same : found_of r ≡ found.Yes = let e = sym answer ∙ yes in cc in yes_found r same;
      said = λ verified_is. answer ∙ ap Ok (finds_yes r verified_is);
    }

pub legal_is_verified : LegalIsVerified
legal_is_verified plan facts log text legal rest is =
    let opened : World = opening plan facts in
    let t : Trace = record { plan = plan; facts = facts; steps = steps_of log; report = report plan opened log } in
    let again : log_of t ≡ log = made_again opened log legal in
    let long : length log ≡ length t.steps = sym (length-map log (λ (e : Entry). (e.seat, e.step))) in
    (yes_is_verified text t is).said
    (record {
      whole = ap (λ (l : List Entry). length l) again ∙ long;
      rest = subst (λ (l : List Entry). Rest (replay opened l)) (sym again) rest;
      same = ap (report plan opened) again;
    })
