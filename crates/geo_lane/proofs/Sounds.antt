-- What a pass keeps of its view after each call.
use Rattle.std.proofs.Common.{◌≡◌, ℕ, ◌+◌, List, [], ◌∷◌, ◌++◌, length, slice_index_or, true, Option, Some, None, sym, refl, ap, ◌∙◌, subst, arith, length-append}
use Rattle.std.specs.Prelude.{MatchOption}
use mathlib.Core.List.{IsPrefix}
use Rattle.crossbeam_queue.specs.Fifo.{Held}
use Rattle.geo_lane.specs.declared.ticket.Ticket.{Ticket}
use Rattle.geo_lane.specs.declared.sent.Sent.{Sent}
use Rattle.geo_lane.specs.declared.view.View.{View}
use Rattle.geo_lane.specs.Ticket.{sent_by}
use Rattle.geo_lane.specs.View.{a_view, one_more, with_ended, sent}
use Rattle.geo_lane.specs.Delivery.{IsInOrder, AreTakenInOrder, Tells, Puts, Takes}
use Rattle.geo_lane.specs.LanePass.{IsSound}
use Rattle.geo_lane.proofs.Orders.{in_order, still_in_order}

at_last : (xs : List Sent) (a d : Sent) → slice_index_or (xs ++ a ∷ []) (length xs) d ≡ a
at_last [] a d = refl
at_last (x ∷ xs) a d = at_last xs a d

-- what was taken of the pass that was taken in begins what it had put
begins_now : (v w : View) → AreTakenInOrder (with_ended v w) → IsPrefix (sent_by w.number v.taken) w.put
begins_now v w t = let last : Sent = sent w in let P : Sent → Type 0 = λ z. IsPrefix (sent_by z.sender v.taken) z.put in
    subst P (at_last v.ended last last) (t.ended (length v.ended) last (let long =
    length-append v.ended (last ∷ []) in omega arith))

-- what is told of a view is told of the same view
pub told_of : (v w : View) → v ≡ w → (items : List Ticket) × Tells w items → (items : List Ticket) × Tells v items
told_of v w same told = (told.0, subst (λ (z : View). Tells z told.0) (sym same) told.1)

module _ (sender split put_so_far : ℕ) (v : View) (s : IsSound sender split put_so_far v) where
  -- the view, as contracts see it
  pub view_is : v ≡ a_view true sender split v.put v.taken v.ended
  view_is = λ i. a_view (s.live i) (s.number i) (s.split_is i) v.put v.taken v.ended

  pub order : IsInOrder (a_view true sender split v.put v.taken v.ended)
  order = subst (λ (z : View). IsInOrder z) view_is s.order

  pub put_sound : (t : Ticket) (w : View) → Puts v t w → IsSound sender split (put_so_far + 1) w
  put_sound t w p = let e = p.0 in record {
    live = ap (λ (z : View). z.live) e ∙ s.live;
    number = ap (λ (z : View). z.number) e ∙ s.number;
    split_is = ap (λ (z : View). z.split) e ∙ s.split_is;
    count = let now = ap (λ (z : View). length z.put) e in let long = length-append v.put (t ∷ []) in let before =
        s.count in omega arith;
    order = in_order w p.1.0 p.1.1;
  }

  pub split_sound : (w : View) → w ≡ one_more v → IsSound sender (split + 1) put_so_far w
  split_sound w e = record {
    live = ap (λ (z : View). z.live) e ∙ s.live;
    number = ap (λ (z : View). z.number) e ∙ s.number;
    split_is = ap (λ (z : View). z.split) e ∙ ap (λ (n : ℕ). n + 1) s.split_is;
    count = s.count ∙ ap (λ (z : List Ticket). length z) (ap (λ (z : View). z.put) (sym e));
    order = subst (λ (z : View). IsInOrder z) (sym e) (still_in_order v s.order);
  }

  pub take_sound : (w : View) (res : Option Ticket)
      → MatchOption res ((w ≡ v) × Held 0 (Tells v)) (λ t. Takes v t w) → IsSound sender split put_so_far w
  take_sound w None r = subst (λ (z : View). IsSound sender split put_so_far z) (sym r.0) s
  take_sound w (Some t) r = let e = r.0 in record {
    live = ap (λ (z : View). z.live) e ∙ s.live;
    number = ap (λ (z : View). z.number) e ∙ s.number;
    split_is = ap (λ (z : View). z.split) e ∙ s.split_is;
    count = s.count ∙ ap (λ (z : View). length z.put) (sym e);
    order = in_order w r.2.0 r.2.1;
  }

  module _ (other w : View) (e : w ≡ with_ended v other) (told : (items : List Ticket) × Tells w items) where
    pub join_sound : IsSound sender split put_so_far w
    join_sound = record {
      live = ap (λ (z : View). z.live) e ∙ s.live;
      number = ap (λ (z : View). z.number) e ∙ s.number;
      split_is = ap (λ (z : View). z.split) e ∙ s.split_is;
      count = s.count ∙ ap (λ (z : View). length z.put) (sym e);
      order = in_order w told.0 told.1;
    }

    pub join_begins : sender ≡ 0 → IsPrefix (sent_by other.number v.taken) other.put
    join_begins zeroth = let o = subst (λ (z : View). IsInOrder z) e join_sound.order in
        begins_now v other (o.taken (s.number ∙ zeroth))
