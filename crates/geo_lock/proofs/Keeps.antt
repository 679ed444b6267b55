-- Each step of the lock keeps its rule.
use Rattle.std.proofs.Common.{◌≡◌, ℕ, zero, suc, ◌+◌, ◌*◌, ◌%◌, ◌^◌, ◌<◌, ◌≤◌, ◌≢◌, ⊎_elim, List, [], ◌∷◌, ◌++◌, length, get_or, set, eqb, cond, Bool, true, false, Option, Some, None, sym, refl, ap, ◌∙◌, subst, arith, length-set, eq-eqb, ne_eqb}
use Rattle.std.proofs.lemmas.Option.{same_Some}
use mathlib.Core.Logic.{dite}
use mathlib.Core.Option.{some, none, some-injective, some-ne-none}
use mathlib.Core.List.{IsPrefix}
use native.Mathlib.Decide.{ℕ_discrete}
use lib.ListN.{get_elem?}
use lib.Seq.{set-get_or}
use prog.Atomic.{either}
use Rattle.atomic_table.specs.Table.{State, Me, step, keeps, takes, gives, stepped, Allows, Splits, Joins, Seen, Final, opening}
use Rattle.atomic_table.proofs.Lists.{at_set, set_here, set_else, set_again, at_longer}
use Rattle.geo_lock.specs.declared.view.View.{View}
use Rattle.geo_lock.specs.declared.claim.Claim.{Claim}
use Rattle.geo_lock.specs.Logged.{entries_with_seat, Grows}
use Rattle.geo_lock.specs.View.{first_number, nobody, opening_view, one_more, newcomer, together, in_turn, out_of_turn}
use Rattle.geo_lock.specs.Turns.{IsClaimOf, Knows, Placed, IsKept, TakesTurn, GivesTurn, Ends}
use Rattle.geo_lock.proofs.Prefixes.{prefix_self, prefix_trans, at_bound, at_end, at_either, at_only, prefix_none}

true_not_false : {P : Type 0} → true ≡ false → P
true_not_false e = absurd (cc e)

module _ {L B E : Type 0} (start : L → B) (log : L → List E) (lawful : B → List E → Type 0) (seat_of : E
    → ℕ) (from : B) where
  abbrev V : Type 0
  V = View B E

  abbrev St : Type 0
  St = State (Option L) V

  abbrev Rule : St → Type 0
  Rule = IsKept start log lawful seat_of from

  -- a step that changes nothing
  still : (s : St) (r : Rule s) (id : ℕ) (cs : List (ℕ × Option L)) (v : V) → get_elem? s.views id ≡ some v
      → Rule (stepped s 0 (get_or s.words 0 0) id cs v keeps)
  still s r id cs v at = let P : List ℕ × List V → Type 0 =
      λ t. Rule record { words = t.0; homes = s.homes; views = t.1 } in
      subst P (λ i. (sym (set-get_or s.words 0 0) i, sym (set_again s.views id v at) i)) r

  -- the facts of the views, where the view `me` becomes w
  views_stay : (K : ℕ → V → Type 0) (vs : List V) (me : ℕ) (w : V) → K me w
      → ((j : ℕ) (d : V) → j ≢ me → get_elem? vs j ≡ some d → K j d) → (j : ℕ) (d : V)
      → get_elem? (set vs me w) j ≡ some d → K j d
  views_stay K vs me w mine others j d e =
      ⊎_elim (λ (t : (j ≡ me) × (w ≡ d)). subst (λ (x : ℕ × V). K x.0 x.1) (λ i. (sym t.0 i, t.1 i)) mine)
      (λ (t : (j ≢ me) × (get_elem? vs j ≡ some d)). others j d t.0 t.1) (at_set vs me j w d e)

  abbrev Enters : ℕ → V → ℕ → ℕ → St → Type 0
  Enters id v old new s = (w : V) × (a : Rattle.atomic_table.specs.Table.Act (Option L))
      × Rattle.atomic_table.specs.Table.Valid s.homes [] a × Rule (stepped s 0 new id [] w a)
      × TakesTurn start log lawful seat_of (step 1 0 old new none) (v, []) (get_or s.words 0 0) (
        w,
        Rattle.atomic_table.specs.Table.carried_after [] a,
      )

  enters_home : (id : ℕ) (v : V) (old new : ℕ) (c : Claim E) → get_elem? v.claims 0 ≡ some c → old % 2 ≡ 0
      → new ≡ old + 1 → (s : St) (r : Rule s) → get_elem? s.views id ≡ some v → get_or s.words 0 0 ≡ old
      → (b : Bool) → r.busy ≡ b → Placed start log lawful seat_of from r.h r.holder s b → Enters id v old new s
  enters_home id v old new c own even up s r at hit true is p =
      let word : get_or s.words 0 0 ≡ 2 * length r.h + 1 = ap (λ (ws : List ℕ). get_or ws 0 0) p.0 in
      absurd (omega arith)
  enters_home id v old new c own even up s r at hit false is p =
      let word : get_or s.words 0 0 ≡ 2 * length r.h = ap (λ (ws : List ℕ). get_or ws 0 0) p.0 in
      let x : L = p.1.0 in
      let k : Knows lawful seat_of from r.h r.made r.owner r.busy r.holder id v = r.each_view id v at in
      let w : V = in_turn v (log x) in
      let now : log x ≡ r.h = p.1.3 in (
        w,
        takes 0 (Some x),
        ap (λ (hs : List (mathlib.Core.Option.Option (Option L))). get_elem? hs 0) p.1.1,
        record {
          h = r.h;
          made = r.made;
          owner = r.owner;
          busy = true;
          holder = id;
          law = r.law;
          small = r.small;
          placed = (
            ap (λ (ws : List ℕ). set ws 0 new) p.0 ∙ ap (λ (z : ℕ). z ∷ []) (omega arith),
            ap (λ (hs : List (mathlib.Core.Option.Option (Option L))). set hs 0 none) p.1.1,
            (w, c, set_here s.views id w (at_bound s.views id v at), refl, own),
          );
          each_view = views_stay (Knows lawful seat_of from r.h r.made r.owner true id) s.views id w
              record {
                start = k.start;
                seen = subst (λ (z : List E). IsPrefix z r.h) (sym now) (prefix_self r.h);
                law = λ b e. subst (λ (t : B × List E). lawful t.0 t.1) (λ i. (sym (k.start b e) i, sym now i))
                    r.law;
                turn = λ _. (refl, refl, now);
                claims = k.claims;
              }
              (λ j d ne e. let o : Knows lawful seat_of from r.h r.made r.owner r.busy r.holder j d =
              r.each_view j d e in
              record {
                start = o.start;
                seen = o.seen;
                law = o.law;
                turn =
                    λ t. true_not_false (sym (o.turn t).0 ∙ is);
                claims = o.claims;
              });
          unmade = r.unmade;
        },
        (
          (λ _. (
            x,
            record {
              start_is = λ b e. p.1.2 ∙ sym (k.start b e);
              longer = subst (λ (z : List E). IsPrefix v.seen z) (sym now) k.seen;
              law = subst (λ (t : B × List E). lawful t.0 t.1) (λ i. (sym p.1.2 i, sym now i)) r.law;
              small = subst (λ (z : List E). length z ≤ 2 ^ 62) (sym now) r.small;
              word = word ∙ ap (λ (z : List E). 2 * length z) (sym now);
              own = λ d e. ap (λ (z : List E). entries_with_seat seat_of d.number z) now ∙ (k.claims 0 d e).entries;
              none_more = λ d e z n above. let count : v.made ≡ r.made = (k.claims 0 d e).count z in
                  ap (λ (z : List E). entries_with_seat seat_of n z) now ∙ r.unmade n (omega arith);
              below = λ d e z. let count : v.made ≡ r.made = (k.claims 0 d e).count z in
                  let under : d.number < r.made = (k.claims 0 d e).below in omega arith;
            },
            refl,
          )),
          (λ miss. absurd (miss hit)),
        ),
      )

  pub enters : (slots id : ℕ) (v : V) (old new : ℕ) (c : Claim E) → get_elem? v.claims 0 ≡ some c → old % 2 ≡ 0
      → new ≡ old + 1
      → Allows Rule slots id (v, []) 0 (λ x. either (eqb x old) new x)
      (TakesTurn start log lawful seat_of (step slots 0 old new none) (v, []))
  enters slots id v old new c own even up s r _ at _ = let x : ℕ = get_or s.words 0 0 in dite (ℕ_discrete x old)
      (λ hit. let t = enters_home id v old new c own even up s r at hit r.busy refl r.placed in (
        t.0,
        t.1,
        t.2,
        subst (λ (b : Bool). Rule (stepped s 0 (either b new x) id [] t.0 t.1)) (sym (eq-eqb x old hit)) t.3,
        t.4,
      ))
      (λ miss. (
        v,
        keeps,
        tt,
        subst (λ (b : Bool). Rule (stepped s 0 (either b new x) id [] v keeps)) (sym (ne_eqb x old miss))
            (still s r id [] v at),
        ((λ hit. absurd (miss hit)), (λ _. refl)),
      ))

  -- the state that a pass puts back
  abbrev the_state : L → List (ℕ × Option L) → L
  the_state d [] = d
  the_state d (y ∷ ys) = elim y.1 [ Some z ↦ z | None ↦ d ]

  leaves_out : (id : ℕ) (v : V) (x : L) (c : Claim E) (new : ℕ) → v.turn ≡ true → v.claims ≡ c ∷ [] → (b : B)
      → v.start ≡ Some b → start x ≡ b → Grows seat_of c.number v.seen (log x) → lawful (start x) (log x)
      → length (log x) ≤ 2 ^ 62 → new ≡ 2 * length (log x) → (s : St) (r : Rule s) → get_elem? s.views id ≡ some v
      → (busy : Bool) → r.busy ≡ busy → Placed start log lawful seat_of from r.h r.holder s busy
      → Rule (stepped s 0 new id ((0, Some x) ∷ []) (out_of_turn seat_of v (log x)) gives)
  leaves_out id v x c new on own b begun same grows law small word s r at false is p =
      true_not_false (sym ((r.each_view id v at).turn on).0 ∙ is)
  leaves_out id v x c new on own b begun same grows law small word s r at true is p =
      let k : Knows lawful seat_of from r.h r.made r.owner r.busy r.holder id v = r.each_view id v at in
      let whole : v.seen ≡ r.h = (k.turn on).2 in
      let mine : IsClaimOf seat_of r.h r.made r.owner id v.made c =
      k.claims 0 c (ap (λ (z : List (Claim E)). get_elem? z 0) own) in
      let number : first_number v.claims ≡ c.number = ap first_number own in
      let longer : IsPrefix r.h (log x) = subst (λ (z : List E). IsPrefix z (log x)) whole grows.longer in
      let w : V = out_of_turn seat_of v (log x) in record {
        h = log x;
        made = r.made;
        owner = r.owner;
        busy = false;
        holder = r.holder;
        law = subst (λ (z : B). lawful z (log x)) (same ∙ k.start b begun) law;
        small = small;
        placed = (
          ap (λ (ws : List ℕ). set ws 0 new) p.0 ∙ ap (λ (z : ℕ). z ∷ []) word,
          (
            x,
            ap (λ (hs : List (mathlib.Core.Option.Option (Option L))). set hs 0 (some (Some x))) p.1,
            same
                ∙ k.start b begun,
            refl,
          ),
        );
        each_view = views_stay (Knows lawful seat_of from (log x) r.made r.owner false r.holder) s.views id w
            record {
              start = k.start;
              seen = prefix_self (log x);
              law = λ d e. subst (λ (z : B). lawful z (log x)) (same ∙ (k.start b begun ∙ sym (k.start d e))) law;
              turn = λ t. true_not_false (sym t);
              claims = λ i d e. subst (λ (z : Claim E). IsClaimOf seat_of (log x) r.made r.owner id v.made z)
                  (at_only _ d i e) record {
                    entries = refl;
                    among = refl;
                    prefix = prefix_self (log x);
                    owned = ap r.owner number ∙ mine.owned;
                    below = subst (λ (z : ℕ). z < r.made) (sym number) mine.below;
                    count = λ z. mine.count (sym number ∙ z);
                  };
            }
            (λ j d ne e. let o : Knows lawful seat_of from r.h r.made r.owner r.busy r.holder j d = r.each_view j d e in
            record {
              start = o.start;
              seen = prefix_trans d.seen r.h (log x) o.seen longer;
              law = o.law;
              turn = λ t. absurd (ne ((o.turn t).1 ∙ sym (k.turn on).1));
              claims = λ i q f. let l : IsClaimOf seat_of r.h r.made r.owner j d.made q = o.claims i q f in record {
                entries = grows.others q.number (λ same. ne (sym l.owned ∙ (ap r.owner same ∙ mine.owned)))
                    ∙ (ap (λ (z : List E). entries_with_seat seat_of q.number z) whole ∙ l.entries);
                among = l.among;
                prefix = prefix_trans q.seen r.h (log x) l.prefix longer;
                owned = l.owned;
                below = l.below;
                count = l.count;
              };
            });
        unmade = λ n above. grows.others n (λ same. let under : c.number < r.made = mine.below in
            absurd (omega arith)) ∙ (ap (λ (z : List E). entries_with_seat seat_of n z) whole ∙ r.unmade n above);
      }

  pub leaves : (slots id : ℕ) (v : V) (x : L) (c : Claim E) (new : ℕ) → v.turn ≡ true → v.claims ≡ c ∷ [] → (b : B)
      → v.start ≡ Some b → start x ≡ b → Grows seat_of c.number v.seen (log x) → lawful (start x) (log x)
      → length (log x) ≤ 2 ^ 62 → new ≡ 2 * length (log x)
      → Allows Rule slots id (v, (0, Some x) ∷ []) 0 (λ _. new)
      (λ _. GivesTurn log seat_of (step slots 0 new 0 none) (v, (0, Some x) ∷ []) new)
  leaves slots id v x c new on own b begun same grows law small word s r _ at _ = (
    out_of_turn seat_of v (log x),
    gives,
    tt,
    leaves_out id v x c new on own b begun same grows law small word s r at r.busy refl r.placed,
    λ y e. ap (λ (z : List (ℕ × Option L)). (out_of_turn seat_of v (log (the_state x z)), [])) e,
  )

  -- where one view changes no start, claim or turn that others see, the turn is where it was
  placed_after : (h : List E) (holder id : ℕ) (v w : V) (s : St) (views : List V) → get_elem? s.views id ≡ some v
      → w.turn ≡ v.turn → ((c : Claim E) → get_elem? v.claims 0 ≡ some c → get_elem? w.claims 0 ≡ some c)
      → get_elem? views id ≡ some w
      → (holder ≢ id → (d : V) → get_elem? s.views holder ≡ some d → d.turn ≡ true
      → get_elem? views holder ≡ some d)
      → (b : Bool) → Placed start log lawful seat_of from h holder s b
      → Placed start log lawful seat_of from h holder record { words = s.words; homes = s.homes; views = views } b
  placed_after h holder id v w s views at turn first here others false p = p
  placed_after h holder id v w s views at turn first here others true p =
      let d : V = p.2.0 in
      let c : Claim E = p.2.1 in (
        p.0,
        p.1,
        dite (ℕ_discrete holder id)
            (λ e. let is : v ≡ d =
            some-injective v d (sym at ∙ (ap (λ (z : ℕ). get_elem? s.views z) (sym e) ∙ p.2.2)) in (
              w,
              c,
              ap (λ (z : ℕ). get_elem? views z) e ∙ here,
              turn ∙ (ap (λ (z : V). z.turn) is ∙ p.2.3),
              first c (ap (λ (z : V). get_elem? z.claims 0) is ∙ p.2.4),
            ))
            (λ ne. (d, c, others ne d p.2.2 p.2.3, p.2.3, p.2.4)),
      )

  abbrev owned_with : (ℕ → ℕ) → ℕ → ℕ → ℕ → ℕ
  owned_with owner made j n = cond (eqb n made) j (owner n)

  owned_new : (owner : ℕ → ℕ) (made j : ℕ) → owned_with owner made j made ≡ j
  owned_new owner made j = ap (λ (b : Bool). cond b j (owner made)) (eq-eqb made made refl)

  owned_old : (owner : ℕ → ℕ) (made j n : ℕ) → n ≢ made → owned_with owner made j n ≡ owner n
  owned_old owner made j n ne = ap (λ (b : Bool). cond b j (owner n)) (ne_eqb n made ne)

  pub splits : (id : ℕ) (v : V) (c : Claim E) → get_elem? v.claims 0 ≡ some c → c.number ≡ 0
      → Splits Rule id v (one_more v) (newcomer v)
  splits id v c own zeroth s r at =
      let k : Knows lawful seat_of from r.h r.made r.owner r.busy r.holder id v = r.each_view id v at in
      let mine : IsClaimOf seat_of r.h r.made r.owner id v.made c = k.claims 0 c own in
      let count : v.made ≡ r.made = mine.count zeroth in
      let some_made : c.number < r.made = mine.below in
      let ends : ℕ = length s.views in
      let owner : ℕ → ℕ = owned_with r.owner r.made ends in
      let kept : (j : ℕ) (d : V) → get_elem? s.views j ≡ some d → (counted : ℕ) → (j ≡ id → counted ≡ r.made + 1)
      → (q : Claim E) → IsClaimOf seat_of r.h r.made r.owner j d.made q
      → IsClaimOf seat_of r.h (r.made + 1) owner j counted q
      = λ j d e counted up q l. let under : q.number < r.made = l.below in record {
        entries = l.entries;
        among = l.among;
        prefix = l.prefix;
        owned = owned_old r.owner r.made ends q.number (λ e. omega arith) ∙ l.owned;
        below = omega arith;
        count = λ z. up (sym l.owned ∙ (ap r.owner (z ∙ sym zeroth) ∙ mine.owned));
      } in
      let views : List V = set s.views id (one_more v) ++ newcomer v ∷ [] in
      let long : length (set s.views id (one_more v)) ≡ ends = length-set s.views id (one_more v) in record {
        h = r.h;
        made = r.made + 1;
        owner = owner;
        busy = r.busy;
        holder = r.holder;
        law = r.law;
        small = r.small;
        placed = placed_after r.h r.holder id v (one_more v) s views at refl (λ d e. e)
            (at_longer (set s.views id (one_more v)) (newcomer v ∷ []) id (one_more v)
            (set_here s.views id (one_more v) (at_bound s.views id v at)))
            (λ ne d e _. at_longer (set s.views id (one_more v)) (newcomer v ∷ []) r.holder d
            (set_else s.views id r.holder (one_more v) ne ∙ e)) r.busy r.placed;
        each_view = λ j d e. ⊎_elim
            (λ (f : get_elem? (set s.views id (one_more v)) j ≡ some d).
            views_stay (Knows lawful seat_of from r.h (r.made + 1) owner r.busy r.holder) s.views id (one_more v)
            record {
              start = k.start;
              seen = k.seen;
              law = k.law;
              turn = k.turn;
              claims =
                  λ i q g. kept id v at (v.made + 1) (λ _. ap (λ (z : ℕ). z + 1) count) q (k.claims i q g);
            }
            (λ m o ne g. let l : Knows lawful seat_of from r.h r.made r.owner r.busy r.holder m o = r.each_view m o g in
            record {
              start = l.start;
              seen = l.seen;
              law = l.law;
              turn = l.turn;
              claims =
                  λ i q t. kept m o g o.made (λ y. absurd (ne y)) q (l.claims i q t);
            })
            j d f)
            (λ (t : (j ≡ length (set s.views id (one_more v))) × (newcomer v ≡ d)).
            subst (λ (y : ℕ × V). Knows lawful seat_of from r.h (r.made + 1) owner r.busy r.holder y.0 y.1)
            (λ i. (sym (t.0 ∙ long) i, t.1 i)) record {
              start = k.start;
              seen = k.seen;
              law = k.law;
              turn = λ y. true_not_false (sym y);
              claims = λ i q g. subst (λ (z : Claim E). IsClaimOf seat_of r.h (r.made + 1) owner ends 0 z)
                  (at_only _ q i g) record {
                    entries = r.unmade v.made (omega arith);
                    among = prefix_none seat_of v.made v.seen r.h k.seen (r.unmade v.made (omega arith));
                    prefix = k.seen;
                    owned = ap owner count ∙ owned_new r.owner r.made ends;
                    below = omega arith;
                    count = λ z. absurd (omega arith);
                  };
            })
            (at_end (set s.views id (one_more v)) (newcomer v) d j e);
        unmade = λ n above. r.unmade n (omega arith);
      }

  abbrev owned_by : (ℕ → ℕ) → ℕ → ℕ → ℕ → ℕ
  owned_by owner other id n = cond (eqb (owner n) other) id (owner n)

  owned_moved : (owner : ℕ → ℕ) (other id n : ℕ) → owner n ≡ other → owned_by owner other id n ≡ id
  owned_moved owner other id n e = ap (λ (b : Bool). cond b id (owner n)) (eq-eqb (owner n) other e)

  owned_stays : (owner : ℕ → ℕ) (other id n : ℕ) → owner n ≢ other → owned_by owner other id n ≡ owner n
  owned_stays owner other id n ne = ap (λ (b : Bool). cond b id (owner n)) (ne_eqb (owner n) other ne)

  first_of_both : (xs ys : List (Claim E)) (c : Claim E) → get_elem? xs 0 ≡ some c → get_elem? (xs ++ ys) 0 ≡ some c
  first_of_both xs ys c e = at_longer xs ys 0 c e

  pub joins : (id : ℕ) (v : V) (other : ℕ) (w : V) (c : Claim E) → get_elem? v.claims 0 ≡ some c → c.number ≡ 0
      → w.turn ≡ false → Joins Rule id v other w (together v w) nobody
  joins id v other w c own zeroth off s r at apart there =
      let there' : get_elem? s.views other ≡ some w = sym (set_else s.views id other (together v w) apart) ∙ there in
      let k : Knows lawful seat_of from r.h r.made r.owner r.busy r.holder id v = r.each_view id v at in
      let l : Knows lawful seat_of from r.h r.made r.owner r.busy r.holder other w = r.each_view other w there' in
      let mine : IsClaimOf seat_of r.h r.made r.owner id v.made c = k.claims 0 c own in
      let owner : ℕ → ℕ = owned_by r.owner other id in
      let both : V = together v w in
      let first : List V = set s.views id both in
      let views : List V = set first other nobody in
      let here : get_elem? first id ≡ some both = set_here s.views id both (at_bound s.views id v at) in
      let kept : (j counted : ℕ) (q : Claim E) → j ≢ other → IsClaimOf seat_of r.h r.made r.owner j counted q
      → IsClaimOf seat_of r.h r.made owner j counted q
      = λ j claim_of q ne l. record {
        entries = l.entries;
        among = l.among;
        prefix = l.prefix;
        owned = owned_stays r.owner other id q.number (λ e. ne (sym l.owned ∙ e)) ∙ l.owned;
        below = l.below;
        count = l.count;
      } in record {
        h = r.h;
        made = r.made;
        owner = owner;
        busy = r.busy;
        holder = r.holder;
        law = r.law;
        small = r.small;
        placed = placed_after r.h r.holder id v both s views at refl (λ d e. first_of_both v.claims w.claims d e)
            (set_else first other id nobody (λ e. apart (sym e)) ∙ here)
            (λ ne d e t.
            set_else first other r.holder nobody
            (λ f. true_not_false (sym t
            ∙ (ap (λ (z : V). z.turn)
            (some-injective d w (sym e ∙ (ap (λ (z : ℕ). get_elem? s.views z) f ∙ there'))) ∙ off)))
            ∙ (set_else s.views id r.holder both ne ∙ e)) r.busy r.placed;
        each_view = views_stay (Knows lawful seat_of from r.h r.made owner r.busy r.holder) first other nobody
            record {
              start = λ b e. absurd (cc e);
              seen = (r.h, refl);
              law = λ b e. absurd (cc e);
              turn =
                  λ y. true_not_false (sym y);
              claims = λ i q g. absurd (some-ne-none q (sym g));
            }
            (λ j d ne e. ⊎_elim
            (λ (t : (j ≡ id) × (both ≡ d)).
            subst (λ (y : ℕ × V). Knows lawful seat_of from r.h r.made owner r.busy r.holder y.0 y.1)
            (λ i. (sym t.0 i, t.1 i)) record {
              start = k.start;
              seen = k.seen;
              law = k.law;
              turn = k.turn;
              claims = λ i q g.
                  ⊎_elim (λ (f : get_elem? v.claims i ≡ some q). kept id v.made q (λ y. apart (sym y)) (k.claims i q f))
                  (λ (f : (m : ℕ) × (get_elem? w.claims m ≡ some q)).
                  let u : IsClaimOf seat_of r.h r.made r.owner other w.made q = l.claims f.0 q f.1 in record {
                    entries = u.entries;
                    among = u.among;
                    prefix = u.prefix;
                    owned = owned_moved r.owner other id q.number u.owned;
                    below = u.below;
                    count = λ z. absurd (apart (sym u.owned ∙ (ap r.owner (z ∙ sym zeroth) ∙ mine.owned)));
                  }) (at_either v.claims w.claims i q g);
            })
            (λ (t : (j ≢ id) × (get_elem? s.views j ≡ some d)).
            let o : Knows lawful seat_of from r.h r.made r.owner r.busy r.holder j d = r.each_view j d t.1 in
            record {
              start = o.start;
              seen = o.seen;
              law = o.law;
              turn = o.turn;
              claims =
                  λ i q g. kept j d.made q ne (o.claims i q g);
            })
            (at_set s.views id j both d e));
        unmade = r.unmade;
      }

  first_knows : lawful from [] → (j : ℕ) (d : V) → get_elem? (opening_view from ∷ []) j ≡ some d
      → Knows lawful seat_of from [] 1 (λ _. 0) false 0 j d
  first_knows law zero d e =
      subst (λ (z : V). Knows lawful seat_of from [] 1 (λ _. 0) false 0 0 z) (some-injective _ d e) record {
        start = λ b f. sym (same_Some from b f);
        seen = prefix_self [];
        law = λ b f. subst (λ (z : B). lawful z []) (same_Some from b f) law;
        turn = λ t. true_not_false (sym t);
        claims = λ i q g. subst (λ (z : Claim E). IsClaimOf seat_of [] 1 (λ _. 0) 0 1 z) (at_only _ q i g)
            record {
              entries = refl;
              among = refl;
              prefix = prefix_self [];
              owned = refl;
              below = omega arith;
              count =
                  λ _. refl;
            };
      }
  first_knows law (suc j) d e = absurd (some-ne-none d (sym e))

  -- the rule at the start
  pub opens : (x : L) → start x ≡ from → log x ≡ [] → lawful (start x) (log x)
      → Rule (opening (0 ∷ []) (Some x ∷ []) (opening_view from))
  opens x begun none_yet law = let first_law : lawful from [] =
      subst (λ (t : B × List E). lawful t.0 t.1) (λ i. (begun i, none_yet i)) law in record {
        h = [];
        made = 1;
        owner = λ _. 0;
        busy = false;
        holder = 0;
        law = first_law;
        small = omega arith;
        placed = (refl, (x, refl, begun, none_yet));
        each_view = first_knows first_law;
        unmade = λ n _. refl;
      }

  -- the rule at the end, where no pass is left but one, which has the claims of all
  closes_at : (id : ℕ) (v : V) → v.turn ≡ false
      → ((n : ℕ) → n < v.made → (i : ℕ) × (c : Claim E) × (get_elem? v.claims i ≡ some c) × (c.number ≡ n))
      → (c : Claim E) → get_elem? v.claims 0 ≡ some c → c.number ≡ 0
      → (s : St) (r : Rule s) → get_elem? s.views id ≡ some v → (b : Bool) → r.busy ≡ b
      → Placed start log lawful seat_of from r.h r.holder s b → Ends start log lawful seat_of from v s.homes
  closes_at id v off all c own zeroth s r at true is p =
      let k : Knows lawful seat_of from r.h r.made r.owner r.busy r.holder id v = r.each_view id v at in
      let d : V = p.2.0 in
      let q : Claim E = p.2.1 in
      let other : IsClaimOf seat_of r.h r.made r.owner r.holder d.made q =
      (r.each_view r.holder d p.2.2).claims 0 q p.2.4 in
      let count : v.made ≡ r.made = (k.claims 0 c own).count zeroth in
      let under : q.number < r.made = other.below in
      let t = all q.number (omega arith) in
      let mine : IsClaimOf seat_of r.h r.made r.owner id v.made t.1 = k.claims t.0 t.1 t.2 in
      let same : id ≡ r.holder = sym mine.owned ∙ (ap r.owner t.3 ∙ other.owned) in
      let is_same : v ≡ d = some-injective v d (sym at ∙ (ap (λ (z : ℕ). get_elem? s.views z) same ∙ p.2.2)) in
      true_not_false (sym p.2.3 ∙ (ap (λ (z : V). z.turn) (sym is_same) ∙ off))
  closes_at id v off all c own zeroth s r at false is p =
      let k : Knows lawful seat_of from r.h r.made r.owner r.busy r.holder id v = r.each_view id v at in
      let count : v.made ≡ r.made = (k.claims 0 c own).count zeroth in
      let now : p.1.0 ≡ p.1.0 = refl in record {
        state = p.1.0;
        home = p.1.1;
        begun = p.1.2;
        law = subst (λ (z : List E). lawful from z) (sym p.1.3) r.law;
        seen = subst (λ (z : List E). IsPrefix v.seen z) (sym p.1.3) k.seen;
        claims = λ i d e. (
          ap (λ (z : List E). entries_with_seat seat_of d.number z) p.1.3 ∙ (k.claims i d e).entries,
          subst (λ (z : List E). IsPrefix d.seen z) (sym p.1.3) (k.claims i d e).prefix,
          (k.claims i d e).among,
        );
        unmade = λ n above. ap (λ (z : List E). entries_with_seat seat_of n z) p.1.3 ∙ r.unmade n (omega arith);
      }

  pub closes : (id : ℕ) (v : V) → v.turn ≡ false
      → ((n : ℕ) → n < v.made → (i : ℕ) × (c : Claim E) × (get_elem? v.claims i ≡ some c) × (c.number ≡ n))
      → (c : Claim E) → get_elem? v.claims 0 ≡ some c → c.number ≡ 0
      → (s : St) → Seen Rule id v s → Ends start log lawful seat_of from v s.homes
  closes id v off all c own zeroth s t = closes_at id v off all c own zeroth s t.0 t.1 t.0.busy refl t.0.placed

  abbrev Seat : Type 0
  Seat = Me (Option L) V

  -- the same for a seat as a whole
  pub enters_as : (slots id : ℕ) (me : Seat) (old new : ℕ) (c : Claim E) → me.1 ≡ []
      → get_elem? me.0.claims 0 ≡ some c → old % 2 ≡ 0 → new ≡ old + 1
      → Allows Rule slots id me 0 (λ x. either (eqb x old) new x)
      (TakesTurn start log lawful seat_of (step slots 0 old new none) me)
  enters_as slots id me old new c empty own even up = let P : List (ℕ × Option L) → Type 0 =
      λ z. Allows Rule slots id (me.0, z) 0 (λ x. either (eqb x old) new x)
      (TakesTurn start log lawful seat_of (step slots 0 old new none) (me.0, z)) in
      subst P (sym empty) (enters slots id me.0 old new c own even up)

  pub leaves_as : (slots id : ℕ) (me : Seat) (v : V) (x : L) (c : Claim E) (new : ℕ) → me ≡ (v, (0, Some x) ∷ [])
      → v.turn ≡ true → v.claims ≡ c ∷ [] → (b : B) → v.start ≡ Some b → start x ≡ b
      → Grows seat_of c.number v.seen (log x)
      → lawful (start x) (log x) → length (log x) ≤ 2 ^ 62 → new ≡ 2 * length (log x)
      → Allows Rule slots id me 0 (λ _. new) (λ _. GivesTurn log seat_of (step slots 0 new 0 none) me new)
  leaves_as slots id me v x c new is on own b begun same grows law small word = let P : Seat → Type 0 =
      λ m. Allows Rule slots id m 0 (λ _. new) (λ _. GivesTurn log seat_of (step slots 0 new 0 none) m new) in
      subst P (sym is) (leaves slots id v x c new on own b begun same grows law small word)

  -- the state that is left in the slot
  pub taken : (id : ℕ) (v : V) → v.turn ≡ false
      → ((n : ℕ) → n < v.made → (i : ℕ) × (c : Claim E) × (get_elem? v.claims i ≡ some c) × (c.number ≡ n))
      → (c : Claim E) → get_elem? v.claims 0 ≡ some c → c.number ≡ 0
      → (ws : List ℕ) (xs : List (Option L)) → Final (Seen Rule id v) ws xs
      → (homes : List (mathlib.Core.Option.Option (Option L)))
      × (e : Ends start log lawful seat_of from v homes) × (get_elem? xs 0 ≡ some (Some e.state))
  taken id v off all c own zeroth ws xs f = let e = closes id v off all c own zeroth f.0 f.1 in (
    f.0.homes,
    e,
    f.4 0 (Some e.state) (ap (λ (hs : List (mathlib.Core.Option.Option (Option L))). get_elem? hs 0) e.home),
  )
