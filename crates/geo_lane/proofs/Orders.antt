-- Tickets in the order of their senders.
use Rattle.std.proofs.Common.{◌≡◌, ◌≢◌, ℕ, ◌+◌, List, [], ◌∷◌, ◌++◌, length, slice_index_or, eqb, cond, Bool, All, ap, ◌∙◌, sym, subst, arith, eq-eqb, ne_eqb}
use mathlib.Core.List.{IsPrefix}
use Rattle.std.proofs.lemmas.List.Elements.{filter-append}
use Rattle.geo_lane.specs.declared.ticket.Ticket.{Ticket}
use Rattle.geo_lane.specs.declared.sent.Sent.{Sent}
use Rattle.geo_lane.specs.declared.view.View.{View}
use Rattle.geo_lane.specs.Ticket.{sent_by, AreNumbered}
use Rattle.geo_lane.specs.View.{one_more}
use Rattle.geo_lane.specs.Delivery.{Tells, IsInOrder, AreTakenInOrder}

pub sent_more : (n : ℕ) (xs ys : List Ticket) → sent_by n (xs ++ ys) ≡ sent_by n xs ++ sent_by n ys
sent_more n xs ys = filter-append (λ (t : Ticket). eqb t.sender n) xs ys

pub sent_mine : (n : ℕ) (t : Ticket) (ts : List Ticket) → t.sender ≡ n → sent_by n (t ∷ ts) ≡ t ∷ sent_by n ts
sent_mine n t ts e = ap (λ (b : Bool). cond b (t ∷ sent_by n ts) (sent_by n ts)) (eq-eqb t.sender n e)

pub sent_other : (n : ℕ) (t : Ticket) (ts : List Ticket) → t.sender ≢ n → sent_by n (t ∷ ts) ≡ sent_by n ts
sent_other n t ts ne = ap (λ (b : Bool). cond b (t ∷ sent_by n ts) (sent_by n ts)) (ne_eqb t.sender n ne)

-- the number of a ticket is how many stand before it
pub number_at : (n k : ℕ) (xs ys : List Ticket) (t : Ticket) → AreNumbered n k (xs ++ t ∷ ys) → t.number ≡ k + length xs
number_at n k [] ys t h = let e = h.1 in omega arith
number_at n k (x ∷ xs) ys t h = let e = number_at n (k + 1) xs ys t h.2 in omega arith

pub numbered_more : (n k : ℕ) (xs : List Ticket) (t : Ticket) → AreNumbered n k xs → t.sender ≡ n
    → t.number ≡ k + length xs → AreNumbered n k (xs ++ t ∷ [])
numbered_more n k [] t h mine e = (mine, omega arith, tt)
numbered_more n k (x ∷ xs) t h mine e = (h.0, h.1, numbered_more n (k + 1) xs t h.2 mine (omega arith))

numbered_less : (n k : ℕ) (xs ys : List Ticket) → AreNumbered n k (xs ++ ys) → AreNumbered n k xs
numbered_less n k [] ys h = tt
numbered_less n k (x ∷ xs) ys h = (h.0, h.1, numbered_less n (k + 1) xs ys h.2)

-- what was taken of a sender begins what was taken and is held of it
begins : (n : ℕ) (taken items put : List Ticket) → sent_by n (taken ++ items) ≡ put → IsPrefix (sent_by n taken) put
begins n taken items put is = (sent_by n items, sym (sent_more n taken items) ∙ is)

-- the order of what the pass 0 has taken, from what it can tell of its lane
taken_in_order : (v : View) (items taken : List Ticket) → ((n : ℕ) → AreNumbered n 0 (sent_by n (taken ++ items)))
    → sent_by v.number (taken ++ items) ≡ v.put
    → All (λ (s : Sent). sent_by s.sender (taken ++ items) ≡ s.put) v.ended → taken ≡ v.taken → AreTakenInOrder v
taken_in_order v items taken numbered own ended same = record {
  numbered = λ n. subst (λ (z : List Ticket). AreNumbered n 0 (sent_by n z)) same
      (numbered_less n 0 (sent_by n taken) (sent_by n items)
      (subst (λ (z : List Ticket). AreNumbered n 0 z) (sent_more n taken items) (numbered n)));
  own = subst (λ (z : List Ticket). IsPrefix (sent_by v.number z) v.put) same (begins v.number taken items v.put own);
  ended = λ k d under. let s : Sent = slice_index_or v.ended k d in
      subst (λ (z : List Ticket). IsPrefix (sent_by s.sender z) s.put) same
      (begins s.sender taken items s.put (ended k d under));
}

-- the order of a pass's tickets, from what it can tell of its lane
pub in_order : (v : View) (items : List Ticket) → Tells v items → IsInOrder v
in_order v items t = record {
  put = subst (λ (z : List Ticket). AreNumbered v.number 0 z) t.own (t.numbered v.number);
  taken = λ zeroth. taken_in_order v items t.taken t.numbered t.own t.ended (t.first zeroth).0;
}

-- another pass that was made changes nothing of the order
pub still_in_order : (v : View) → IsInOrder v → IsInOrder (one_more v)
still_in_order v o =
    record {
      put = o.put;
      taken = λ zeroth. let t = o.taken zeroth in
          record { numbered = t.numbered; own = t.own; ended = t.ended };
    }
