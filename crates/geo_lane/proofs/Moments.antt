-- What a pass learns from a moment at which its lane held so many tickets.
use Rattle.std.proofs.Common.{◌≡◌, ℕ, ◌+◌, ◌<◌, List, [], ◌∷◌, ◌++◌, length, All, refl, ap, ◌∙◌, sym, subst, arith, length-append}
use mathlib.Core.Logic.{dite}
use native.Mathlib.Decide.{ℕ_discrete}
use Rattle.std.proofs.lemmas.List.{nil_from_length, append-nil}
use Rattle.crossbeam_queue.specs.Fifo.{Held}
use Rattle.geo_lane.specs.declared.ticket.Ticket.{Ticket}
use Rattle.geo_lane.specs.declared.sent.Sent.{Sent}
use Rattle.geo_lane.specs.declared.view.View.{View}
use Rattle.geo_lane.specs.Ticket.{sent_by}
use Rattle.geo_lane.specs.Delivery.{Tells, HasTakenAll}
use Rattle.geo_lane.proofs.Orders.{sent_mine, sent_other}

-- where no other sender has a ticket, all are those of the sender 0
only_zero : (xs : List Ticket) → ((n : ℕ) → 0 < n → sent_by n xs ≡ []) → sent_by 0 xs ≡ xs
only_zero [] none = refl
only_zero (x ∷ xs) none =
    dite (ℕ_discrete x.sender 0)
    (λ same. sent_mine 0 x xs same
    ∙ ap (λ z. x ∷ z)
    (only_zero xs (λ n some. sym (sent_other n x xs (λ here. absurd (omega (arith, same, here, some))))
    ∙ none n some)))
    (λ differs. let held = sym (sent_mine x.sender x xs refl) ∙ none x.sender (omega (arith, differs)) in absurd (cc))

-- the pass 0, alone in its lane, knows how many tickets the lane holds
pub alone_holds : (count : ℕ) (v : View) → Held count (Tells v) → v.number ≡ 0 → v.split ≡ 0
    → length v.put ≡ length v.taken + count
alone_holds count v h zeroth alone =
    let t = h.2 in
    let first = t.first zeroth in
    let all = only_zero (t.taken ++ h.0) (λ n some. first.1 n (omega (arith, alone, some))) in
    let put : t.taken ++ h.0 ≡ v.put = sym all ∙ subst (λ n. sent_by n (t.taken ++ h.0) ≡ v.put) zeroth t.own in
    let long = length-append t.taken h.0 in
    let taken = ap (λ (xs : List Ticket). length xs) first.0 in
    let both = ap (λ (xs : List Ticket). length xs) put in
    omega (arith, long, taken, both, h.1)

-- from an empty lane the pass 0 has taken all that it can know of
pub none_left : (v : View) → Held 0 (Tells v) → v.number ≡ 0 → HasTakenAll v
none_left v h zeroth =
    let t = h.2 in
    let all : t.taken ++ h.0 ≡ v.taken = ap (λ z. t.taken ++ z) (nil_from_length h.0 h.1) ∙ append-nil t.taken
    ∙ (t.first zeroth).0 in
    record {
      own = subst (λ (xs : List Ticket). sent_by v.number xs ≡ v.put) all t.own;
      ended = subst (λ (xs : List Ticket). All (λ (s : Sent). sent_by s.sender xs ≡ s.put) v.ended) all t.ended;
    }
