-- Entries in which each bio that is taken is delivered, with a Take and its Deliver more.
use Rattle.std.specs.Prelude.{◌≡◌, ◌⊎◌, ℕ, ◌==◌, Bool, true, false, List, [], ◌∷◌, ◌++◌, find, Option, Some, None, Contains, IsSome, option_and_then}
use Rattle.std.specs.Option.{option_or}
use Rattle.std.proofs.Common.{inl, inr, refl, sym, ◌∙◌, ap, subst}
use Rattle.std.proofs.lemmas.Bool.{both_ways}
use Rattle.std.proofs.lemmas.List.Elements.{Contains-append_right}
use Rattle.std.proofs.lemmas.List.Folds.{find-append}
use Rattle.geo_model.specs.declared.step.DeviceResult.{DeviceResult}
use Rattle.geo_model.specs.declared.step.Entry.{Entry}
use Rattle.geo_model.specs.declared.step.Request.{Request}
use Rattle.geo_model.specs.declared.step.Step.{Step}
use Rattle.geo_model.specs.declared.step.Step.TheVariants as steps
use Rattle.geo_model.specs.Results.{device_answer_in, device_answer_of, is_deliver_of, is_take_of, request_in}
use Rattle.geo_laws_graph.proofs.Members.{Contains-cases, Contains-here, Contains-there, nothing_in}
use Rattle.geo_jobs.specs.Served.{AreAnswered}

-- the answer of what was found, and the request
abbrev answer_at : Option Entry → Option DeviceResult
answer_at found = option_and_then (λ (e : Entry). device_answer_in e.step) found

abbrev request_at : Option Entry → Option Request
request_at found = option_and_then (λ (e : Entry). request_in e.outcome) found

-- an answer that is found is found in a longer list too
answer_stays : (xs ys : List Entry) (b : ℕ) → IsSome (device_answer_of xs b) → IsSome (device_answer_of (xs ++ ys) b)
answer_stays xs ys b some =
    subst (λ o. IsSome (answer_at o)) (sym (find-append test xs ys)) (by (find test xs) some)
  where
    test : Entry → Bool
    test e = is_deliver_of b e.step

    by : (o : Option Entry) → IsSome (answer_at o) → IsSome (answer_at (option_or o (find test ys)))
    by None none = absurd (let bad : ⊥ = cc in bad)
    by (Some e) found = found

-- a Deliver of the bio answers
deliver_answers : (b : ℕ) (s : Step) → is_deliver_of b s ≡ true → IsSome (device_answer_in s)
deliver_answers b (steps.Deliver x got) e = refl
deliver_answers b (steps.Go actor) e = absurd (let bad : ⊥ = cc in bad)
deliver_answers b steps.Event e = absurd (let bad : ⊥ = cc in bad)
deliver_answers b steps.Judge e = absurd (let bad : ⊥ = cc in bad)
deliver_answers b steps.Reap e = absurd (let bad : ⊥ = cc in bad)
deliver_answers b steps.Wash e = absurd (let bad : ⊥ = cc in bad)
deliver_answers b (steps.Start x) e = absurd (let bad : ⊥ = cc in bad)
deliver_answers b (steps.Take disk x) e = absurd (let bad : ⊥ = cc in bad)
deliver_answers b (steps.Up x) e = absurd (let bad : ⊥ = cc in bad)

-- where there is one an answer is found
answer_found : (es : List Entry) (e : Entry) (b : ℕ) → Contains es e → is_deliver_of b e.step ≡ true
    → IsSome (device_answer_of es b)
answer_found [] e b here delivers = absurd (nothing_in e here)
answer_found (x ∷ es) e b here delivers = by (is_deliver_of b x.step) refl (answer_found es e b)
  where
    there : is_deliver_of b x.step ≡ false → (x ≡ e) ⊎ Contains es e → Contains es e
    there miss (inl same) =
        absurd (both_ways (is_deliver_of b e.step)
        (subst (λ (z : Entry). is_deliver_of b z.step ≡ false) same miss) delivers)
    there miss (inr rest) = rest

    by : (c : Bool) → is_deliver_of b x.step ≡ c
        → (Contains es e → is_deliver_of b e.step ≡ true → IsSome (device_answer_of es b))
        → IsSome (device_answer_of (x ∷ es) b)
    by true is rest = rw is (deliver_answers b x.step is)
    by false is rest = rw is (rest (there is (Contains-cases x e es here)) delivers)

-- a Take and its Deliver
pub answered_more : (xs : List Entry) (t d : Entry) (disk b : ℕ) (got : DeviceResult) → t.step ≡ steps.Take disk b
    → d.step ≡ steps.Deliver b got → AreAnswered xs → AreAnswered (xs ++ t ∷ d ∷ [])
answered_more xs t d disk b got takes delivers before bio asked =
    by (find test xs) refl (subst (λ o. IsSome (request_at o)) (find-append test xs two) asked)
  where
    two : List Entry
    two = t ∷ d ∷ []

    test : Entry → Bool
    test e = is_take_of bio e.step

    -- the request that is found is the Take's
    own : (c : Bool) → (b == bio) ≡ c → IsSome (request_at (find test two)) → IsSome (device_answer_of (xs ++ two) bio)
    own true same found =
        answer_found (xs ++ two) d bio
        (Contains-append_right xs two d (Contains-there t d (d ∷ []) (Contains-here d [])))
        (ap (λ s. is_deliver_of bio s) delivers ∙ same)
    own false other found =
        let take_apart : test t ≡ false = ap (λ s. is_take_of bio s) takes ∙ other in
        let deliver_apart : test d ≡ false = ap (λ s. is_take_of bio s) delivers in
        let nowhere : find test two ≡ None = rw (take_apart, deliver_apart) refl in
        let unasked : IsSome (request_at None) = subst (λ o. IsSome (request_at o)) nowhere found in
        absurd (let bad : ⊥ = cc in bad)

    by : (o : Option Entry) → find test xs ≡ o → IsSome (request_at (option_or o (find test two)))
        → IsSome (device_answer_of (xs ++ two) bio)
    by None is found = own (b == bio) refl found
    by (Some e) is found =
        answer_stays xs two bio (before bio (subst (λ o. IsSome (request_at o)) (sym is) found))
