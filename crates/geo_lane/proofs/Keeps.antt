-- Each kind of step keeps the rule of the lane.
use Rattle.std.proofs.Common.{◌≡◌, ◌≢◌, ℕ, zero, suc, ◌+◌, ◌<◌, ◌≤◌, ◌⊎◌, ⊎_elim, List, [], ◌∷◌, ◌++◌, length, slice_index_or, set, eqb, cond, Bool, true, sym, refl, ap, ◌∙◌, subst, arith, length-set, eq-eqb, ne_eqb}
use mathlib.Core.Logic.{dite, inl, inr}
use mathlib.Core.Option.{some, some-injective, some-ne-none}
use native.Mathlib.Decide.{ℕ_discrete}
use lib.ListN.{get_elem?}
use Rattle.std.proofs.lemmas.List.{append-nil, append_assoc}
use Rattle.std.proofs.lemmas.List.Elements.{All-append}
use Rattle.crossbeam_queue.specs.Fifo.{Pushes, Pops, Forks, Merges, Learns}
use Rattle.atomic_table.proofs.Lists.{at_set, set_else}
use Rattle.geo_base.proofs.Tests.{from_true_false}
use Rattle.geo_lane.specs.declared.ticket.Ticket.{Ticket}
use Rattle.geo_lane.specs.declared.sent.Sent.{Sent}
use Rattle.geo_lane.specs.declared.view.View.{View}
use Rattle.geo_lane.specs.Ticket.{sent_by, AreNumbered}
use Rattle.geo_lane.specs.View.{opening_view, nobody, one_more, newcomer, with_ended, sent, has_put, has_taken}
use Rattle.geo_lane.specs.Delivery.{IsSentOf, Knows, IsDelivered, Tells, Puts, Takes}
use Rattle.geo_lane.proofs.Orders.{sent_more, sent_mine, sent_other, number_at, numbered_more}

at_end : (l : List View) (a b : View) (j : ℕ) → get_elem? (l ++ a ∷ []) j ≡ some b → (get_elem? l j ≡ some b)
    ⊎ ((j ≡ length l) × (a ≡ b))
at_end [] a b zero e = inr (refl, some-injective a b e)
at_end [] a b (suc j) e = absurd (some-ne-none b (sym e))
at_end (x ∷ xs) a b zero e = inl e
at_end (x ∷ xs) a b (suc j) e =
    ⊎_elim (λ t. inl t) (λ (t : (j ≡ length xs) × (a ≡ b)). inr (ap suc t.0, t.1)) (at_end xs a b j e)

-- the facts of the views, where the view `me` becomes w
views_stay : (K : ℕ → View → Type 0) (vs : List View) (me : ℕ) (w : View) → K me w
    → ((j : ℕ) (d : View) → j ≢ me → get_elem? vs j ≡ some d → K j d) → (j : ℕ) (d : View)
    → get_elem? (set vs me w) j ≡ some d → K j d
views_stay K vs me w mine others j d e =
    ⊎_elim (λ (t : (j ≡ me) × (w ≡ d)). subst (λ (x : ℕ × View). K x.0 x.1) (λ i. (sym t.0 i, t.1 i)) mine)
    (λ (t : (j ≢ me) × (get_elem? vs j ≡ some d)). others j d t.0 t.1) (at_set vs me j w d e)

opening_knows : (j : ℕ) (v : View) → get_elem? (opening_view ∷ []) j ≡ some v → Knows [] [] 1 (λ _. 0) j v
opening_knows zero v e = subst (λ (z : View). Knows [] [] 1 (λ _. 0) 0 z) (some-injective opening_view v e)
    record {
      own = λ _. record { is = refl; owned = refl; below = omega arith };
      ended =
          λ _ k d under. absurd (omega arith);
      first = λ _ _. (refl, refl);
    }
opening_knows (suc j) v e = absurd (some-ne-none v (sym e))

-- the rule at the start
pub opens : IsDelivered [] (opening_view ∷ [])
opens = record {
  taken = [];
  made = 1;
  owner = λ _. 0;
  each_view = opening_knows;
  numbered = λ n. tt;
  unmade =
      λ n _. refl;
}

-- what a pass can tell, from the rule
tells_at : (id : ℕ) (v : View) → v.live ≡ true
    → (items : List Ticket) (taken : List Ticket) (made : ℕ) (owner : ℕ → ℕ) → Knows taken items made owner id v
    → ((n : ℕ) → AreNumbered n 0 (sent_by n (taken ++ items)))
    → ((n : ℕ) → made ≤ n → sent_by n (taken ++ items) ≡ []) → Tells v items
tells_at id v live items taken made owner k numbered unmade =
    let own : IsSentOf (taken ++ items) made owner id v.number v.put = k.own live in record {
      taken = taken;
      numbered = numbered;
      own = own.is;
      ended = λ i d under. (k.ended live i d under).0.is;
      first = λ zeroth. let f = k.first live zeroth in (sym f.1, λ n above. unmade n (let count = f.0 in omega arith));
    }

pub learns : (id : ℕ) (v : View) → v.live ≡ true → Learns IsDelivered id v (Tells v)
learns id v live items views r at =
    tells_at id v live items r.taken r.made r.owner (r.each_view id v at) r.numbered r.unmade

pub puts : (cap id : ℕ) (v : View) (t : Ticket) → v.live ≡ true → t.sender ≡ v.number → t.number ≡ length v.put
    → Pushes IsDelivered cap id v t (Puts v t)
puts cap id v t live mine count items views _ r at =
    let k : Knows r.taken items r.made r.owner id v = r.each_view id v at in
    let own : IsSentOf (r.taken ++ items) r.made r.owner id v.number v.put = k.own live in
    let history : List Ticket = r.taken ++ items in
    let back : r.taken ++ (items ++ t ∷ []) ≡ history ++ t ∷ [] = sym (append_assoc r.taken items (t ∷ [])) in
    let added : sent_by v.number (history ++ t ∷ []) ≡ v.put ++ t ∷ [] = sent_more v.number history (t ∷ [])
    ∙ (λ i. own.is i ++ sent_mine v.number t [] mine i) in
    let other : (n : ℕ) → n ≢ v.number → sent_by n (history ++ t ∷ []) ≡ sent_by n history =
    λ n ne. sent_more n history (t ∷ [])
    ∙ (ap (λ (z : List Ticket). sent_by n history ++ z) (sent_other n t [] (λ e. ne (sym e ∙ mine)))
    ∙ append-nil (sent_by n history)) in
    let moved : (j n : ℕ) (put : List Ticket) → n ≢ v.number → IsSentOf history r.made r.owner j n put
    → IsSentOf (r.taken ++ (items ++ t ∷ [])) r.made r.owner j n put
    = λ j n put ne l. record { is = ap (sent_by n) back ∙ (other n ne ∙ l.is); owned = l.owned; below = l.below } in
    let knows : Knows r.taken (items ++ t ∷ []) r.made r.owner id (has_put v t) = record {
      own = λ _. record { is = ap (sent_by v.number) back ∙ added; owned = own.owned; below = own.below };
      ended = λ l i d under. let h = k.ended l i d under in
          (moved id (slice_index_or v.ended i d).sender (slice_index_or v.ended i d).put h.1 h.0, h.1);
      first = k.first;
    } in
    let numbered : (n : ℕ) → AreNumbered n 0 (sent_by n (r.taken ++ (items ++ t ∷ [])))
    = λ n. subst (λ (z : List Ticket). AreNumbered n 0 (sent_by n z)) (sym back) (dite (ℕ_discrete n v.number)
    (λ e. subst (λ (z : ℕ). AreNumbered z 0 (sent_by z (history ++ t ∷ []))) (sym e)
    (subst (λ (z : List Ticket). AreNumbered v.number 0 z) (sym added)
    (numbered_more v.number 0 v.put t
    (subst (λ (z : List Ticket). AreNumbered v.number 0 z) own.is (r.numbered v.number)) mine (omega arith))))
    (λ ne. subst (λ (z : List Ticket). AreNumbered n 0 z) (sym (other n ne)) (r.numbered n))) in
    let unmade : (n : ℕ) → r.made ≤ n → sent_by n (r.taken ++ (items ++ t ∷ [])) ≡ [] =
    λ n above. ap (sent_by n) back
    ∙ (other n (λ e. let under = own.below in absurd (omega arith)) ∙ r.unmade n above) in (
      has_put v t,
      record {
        taken = r.taken;
        made = r.made;
        owner = r.owner;
        each_view = views_stay (Knows r.taken (items ++ t ∷ []) r.made r.owner) views id (has_put v t) knows
            (λ j d ne e. let o : Knows r.taken items r.made r.owner j d = r.each_view j d e in record {
              own = λ l. let c = o.own l in
                  moved j d.number d.put (λ same. ne (sym c.owned ∙ (ap r.owner same ∙ own.owned))) c;
              ended = λ l i s under. let h = o.ended l i s under in let q = h.0 in (
                moved j (slice_index_or d.ended i s).sender (slice_index_or d.ended i s).put
                    (λ same. ne (sym q.owned ∙ (ap r.owner same ∙ own.owned))) h.0,
                h.1,
              );
              first = o.first;
            });
        numbered = numbered;
        unmade = unmade;
      },
      (
        refl,
        (
          items ++ t ∷ [],
          tells_at id (has_put v t) live (items ++ t ∷ []) r.taken r.made r.owner knows
              numbered unmade,
        ),
      ),
    )

pub takes : (id : ℕ) (v : View) → v.live ≡ true → v.number ≡ 0 → Pops IsDelivered id v (Takes v)
takes id v live zeroth t items views r at =
    let k : Knows r.taken (t ∷ items) r.made r.owner id v = r.each_view id v at in
    let mine : IsSentOf (r.taken ++ t ∷ items) r.made r.owner id v.number v.put = k.own live in
    let f = k.first live zeroth in
    let back : (r.taken ++ t ∷ []) ++ items ≡ r.taken ++ t ∷ items = append_assoc r.taken (t ∷ []) items in
    let moved : (j n : ℕ) (put : List Ticket) → IsSentOf (r.taken ++ t ∷ items) r.made r.owner j n put
    → IsSentOf ((r.taken ++ t ∷ []) ++ items) r.made r.owner j n put
    = λ j n put l. record { is = ap (sent_by n) back ∙ l.is; owned = l.owned; below = l.below } in
    let here : sent_by t.sender (r.taken ++ t ∷ items) ≡ sent_by t.sender r.taken ++ t ∷ sent_by t.sender items =
    sent_more t.sender r.taken (t ∷ items)
    ∙ ap (λ (z : List Ticket). sent_by t.sender r.taken ++ z) (sent_mine t.sender t items refl) in
    let number : t.number ≡ 0 + length (sent_by t.sender r.taken) =
    number_at t.sender 0 (sent_by t.sender r.taken) (sent_by t.sender items) t
    (subst (λ (z : List Ticket). AreNumbered t.sender 0 z) here (r.numbered t.sender)) in
    let knows : Knows (r.taken ++ t ∷ []) items r.made r.owner id (has_taken v t) = record {
      own = λ l. moved id v.number v.put (k.own l);
      ended = λ l i d under. let h = k.ended l i d under in
          (moved id (slice_index_or v.ended i d).sender (slice_index_or v.ended i d).put h.0, h.1);
      first = λ _ _. (f.0, ap (λ (z : List Ticket). z ++ t ∷ []) f.1);
    } in
    let numbered : (n : ℕ) → AreNumbered n 0 (sent_by n ((r.taken ++ t ∷ []) ++ items)) =
    λ n. subst (λ (z : List Ticket). AreNumbered n 0 (sent_by n z)) (sym back) (r.numbered n) in
    let unmade : (n : ℕ) → r.made ≤ n → sent_by n ((r.taken ++ t ∷ []) ++ items) ≡ [] =
    λ n above. ap (sent_by n) back ∙ r.unmade n above in (
      has_taken v t,
      record {
        taken = r.taken ++ t ∷ [];
        made = r.made;
        owner = r.owner;
        each_view = views_stay (Knows (r.taken ++ t ∷ []) items r.made r.owner) views id (has_taken v t) knows
            (λ j d ne e. let o : Knows r.taken (t ∷ items) r.made r.owner j d = r.each_view j d e in record {
              own = λ l. moved j d.number d.put (o.own l);
              ended = λ l i s under. let h = o.ended l i s under in
                  (moved j (slice_index_or d.ended i s).sender (slice_index_or d.ended i s).put h.0, h.1);
              first = λ l z. let q = o.own l in absurd (ne (sym q.owned ∙ (ap r.owner (z ∙ sym zeroth) ∙ mine.owned)));
            });
        numbered = numbered;
        unmade = unmade;
      },
      (
        refl,
        subst (λ (z : List Ticket). t.number ≡ length (sent_by t.sender z)) (sym f.1) (omega arith),
        (items, tells_at id (has_taken v t) live items (r.taken ++ t ∷ []) r.made r.owner knows numbered unmade),
      ),
    )

owned_old : (owner : ℕ → ℕ) (made j n : ℕ) → n ≢ made → cond (eqb n made) j (owner n) ≡ owner n
owned_old owner made j n ne = ap (λ (b : Bool). cond b j (owner n)) (ne_eqb n made ne)

pub forks : (id : ℕ) (v : View) → v.live ≡ true → v.number ≡ 0 → Forks IsDelivered id v (one_more v) (newcomer v)
forks id v live zeroth items views r at =
    let k : Knows r.taken items r.made r.owner id v = r.each_view id v at in
    let own : IsSentOf (r.taken ++ items) r.made r.owner id v.number v.put = k.own live in
    let f = k.first live zeroth in
    let count : v.split + 1 ≡ r.made = f.0 in
    let ends : ℕ = length views in
    let owner : ℕ → ℕ = λ n. cond (eqb n r.made) ends (r.owner n) in
    let long : length (set views id (one_more v)) ≡ ends = length-set views id (one_more v) in
    let kept : (j n : ℕ) (put : List Ticket) → IsSentOf (r.taken ++ items) r.made r.owner j n put
    → IsSentOf (r.taken ++ items) (r.made + 1) owner j n put
    = λ j n put l. let under = l.below in
    record {
      is = l.is;
      owned = owned_old r.owner r.made ends n (λ e. omega arith) ∙ l.owned;
      below =
          omega arith;
    } in record {
      taken = r.taken;
      made = r.made + 1;
      owner = owner;
      each_view = λ j d e. ⊎_elim
          (λ (g : get_elem? (set views id (one_more v)) j ≡ some d).
          views_stay (Knows r.taken items (r.made + 1) owner) views id (one_more v) record {
            own = λ l. kept id v.number v.put (k.own l);
            ended = λ l i s under. let h = k.ended l i s under in
                (kept id (slice_index_or v.ended i s).sender (slice_index_or v.ended i s).put h.0, h.1);
            first = λ _ _. (ap (λ (z : ℕ). z + 1) count, f.1);
          }
          (λ m o ne h. let u : Knows r.taken items r.made r.owner m o = r.each_view m o h in record {
            own = λ l. kept m o.number o.put (u.own l);
            ended = λ l i s under. let q = u.ended l i s under in
                (kept m (slice_index_or o.ended i s).sender (slice_index_or o.ended i s).put q.0, q.1);
            first = λ l z. let q = u.own l in absurd (ne (sym q.owned ∙ (ap r.owner (z ∙ sym zeroth) ∙ own.owned)));
          })
          j d g)
          (λ (t : (j ≡ length (set views id (one_more v))) × (newcomer v ≡ d)).
          subst (λ (y : ℕ × View). Knows r.taken items (r.made + 1) owner y.0 y.1)
          (λ i. (sym (t.0 ∙ long) i, t.1 i)) record {
            own = λ _. record {
              is = r.unmade (v.split + 1) (omega arith);
              owned =
                  ap owner count ∙ ap (λ (b : Bool). cond b ends (r.owner r.made)) (eq-eqb r.made r.made refl);
              below = omega arith;
            };
            ended = λ _ i s under. absurd (omega arith);
            first = λ _ z. absurd (omega arith);
          })
          (at_end (set views id (one_more v)) (newcomer v) d j e);
      numbered = r.numbered;
      unmade = λ n above. r.unmade n (omega arith);
    }

-- a pass with another number knows what it has put, and so does the one that takes it in
pub merges : (id : ℕ) (v : View) (other : ℕ) (w : View) → v.live ≡ true → w.live ≡ true
    → Merges IsDelivered id v other w (with_ended v w) nobody
merges id v other w live live' items views r at apart there =
    let there' : get_elem? views other ≡ some w = sym (set_else views id other (with_ended v w) apart) ∙ there in
    let k : Knows r.taken items r.made r.owner id v = r.each_view id v at in
    let u : Knows r.taken items r.made r.owner other w = r.each_view other w there' in
    let own : IsSentOf (r.taken ++ items) r.made r.owner id v.number v.put = k.own live in
    let theirs : IsSentOf (r.taken ++ items) r.made r.owner other w.number w.put = u.own live' in
    let owner : ℕ → ℕ = λ n. cond (eqb (r.owner n) other) id (r.owner n) in
    let kept : (j n : ℕ) (put : List Ticket) → j ≢ other → IsSentOf (r.taken ++ items) r.made r.owner j n put
    → IsSentOf (r.taken ++ items) r.made owner j n put
    = λ j n put ne l. record {
      is = l.is;
      owned =
          ap (λ (b : Bool). cond b id (r.owner n)) (ne_eqb (r.owner n) other (λ e. ne (sym l.owned ∙ e))) ∙ l.owned;
      below = l.below;
    } in
    let Told : ℕ → ℕ → Sent → Type 0 = λ j n s. IsSentOf (r.taken ++ items) r.made owner j s.sender s.put
    × (s.sender ≢ n) in record {
      taken = r.taken;
      made = r.made;
      owner = owner;
      each_view = views_stay (Knows r.taken items r.made owner) (set views id (with_ended v w)) other nobody
          record {
            own = λ x. from_true_false (sym x);
            ended = λ x. from_true_false (sym x);
            first = λ x. from_true_false (sym x);
          }
          (λ j d ne e. ⊎_elim
          (λ (t : (j ≡ id) × (with_ended v w ≡ d)).
          subst (λ (y : ℕ × View). Knows r.taken items r.made owner y.0 y.1) (λ i. (sym t.0 i, t.1 i)) record {
            own = λ l. kept id v.number v.put (λ y. apart (sym y)) (k.own l);
            ended = λ l. All-append (Told id v.number) v.ended (sent w ∷ [])
                (λ i s under. let h = k.ended l i s under in (
                  kept id (slice_index_or v.ended i s).sender (slice_index_or v.ended i s).put
                      (λ y. apart (sym y)) h.0,
                  h.1,
                ))
                (λ i s under. subst (λ (z : Sent). Told id v.number z) (only i s under) (
                  record {
                    is = theirs.is;
                    owned =
                        ap (λ (b : Bool). cond b id (r.owner w.number))
                        (eq-eqb (r.owner w.number) other theirs.owned);
                    below = theirs.below;
                  },
                  λ same. apart (sym theirs.owned ∙ (ap r.owner same ∙ own.owned)),
                ));
            first = k.first;
          })
          (λ (t : (j ≢ id) × (get_elem? views j ≡ some d)). let o : Knows r.taken items r.made r.owner j d =
          r.each_view j d t.1 in record {
            own = λ l. kept j d.number d.put ne (o.own l);
            ended = λ l i s under. let h = o.ended l i s under in
                (kept j (slice_index_or d.ended i s).sender (slice_index_or d.ended i s).put ne h.0, h.1);
            first = o.first;
          })
          (at_set views id j (with_ended v w) d e));
      numbered = r.numbered;
      unmade = r.unmade;
    }
  where
    only : (i : ℕ) (s : Sent) → i < length (sent w ∷ []) → sent w ≡ slice_index_or (sent w ∷ []) i s
    only zero s under = refl
    only (suc i) s under = absurd (omega arith)
