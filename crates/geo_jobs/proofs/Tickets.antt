-- Tickets that were put, one part after another.
use Rattle.std.specs.Prelude.{◌≡◌, ◌+◌, ◌≤◌, List, [], ◌∷◌, ◌++◌, length}
use Rattle.std.proofs.Common.{inl, inr, refl, sym, ◌∙◌, ap, subst, arith}
use Rattle.std.proofs.lemmas.List.{length-append}
use Rattle.geo_lane.specs.declared.ticket.TicketStep.{TicketStep}
use Rattle.geo_lane.specs.LanePass.{LanePassView}
use Rattle.geo_jobs.specs.Putting.{PutsAll, PutsOne, ticket_of}

-- one ticket
pub puts_one : (p : LanePassView) (s : TicketStep) (q : LanePassView) → PutsOne p s q → PutsAll p (s ∷ []) q
puts_one p s q one = (q, one, refl)

-- one part after another
pub puts_join : (p : LanePassView) (ss ts : List TicketStep) (m q : LanePassView) → PutsAll p ss m → PutsAll m ts q
    → PutsAll p (ss ++ ts) q
puts_join p [] ts m q none rest = subst (λ (l : LanePassView). PutsAll l ts q) none rest
puts_join p (s ∷ ss) ts m q (l, one, all) rest = (l, one, puts_join l ss ts m q all rest)

one_same : (p : LanePassView) (s : TicketStep) (q : LanePassView) → PutsOne p s q → q ≡ record p { put = q.put }
one_same p s q (inl is) = subst (λ (l : LanePassView). l ≡ record p { put = l.put }) (sym is) refl
one_same p s q (inr (is, full)) = subst (λ (l : LanePassView). l ≡ record p { put = l.put }) (sym is) refl

-- all else of the pass stays
pub puts_same : (p : LanePassView) (ss : List TicketStep) (q : LanePassView) → PutsAll p ss q
    → q ≡ record p { put = q.put }
puts_same p [] q none = subst (λ (l : LanePassView). l ≡ record p { put = l.put }) (sym none) refl
puts_same p (s ∷ ss) q (m, one, all) =
    puts_same m ss q all ∙ ap (λ (l : LanePassView). record l { put = q.put }) (one_same p s m one)

one_length : (p : LanePassView) (s : TicketStep) (q : LanePassView) → PutsOne p s q
    → length q.put ≤ length p.put + 1
one_length p s q (inl is) =
    omega (arith, ap (λ (l : LanePassView). length l.put) is, length-append p.put (ticket_of p s ∷ []))
one_length p s q (inr (is, full)) = omega (arith, ap (λ (l : LanePassView). length l.put) is)

-- no more were put than were to be put
pub puts_length : (p : LanePassView) (ss : List TicketStep) (q : LanePassView) → PutsAll p ss q
    → length q.put ≤ length p.put + length ss
puts_length p [] q none = omega (arith, ap (λ (l : LanePassView). length l.put) none)
puts_length p (s ∷ ss) q (m, one, all) = omega (arith, one_length p s m one, puts_length m ss q all)
