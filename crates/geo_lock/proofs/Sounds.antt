-- What a pass keeps of its seat after each call.
use Rattle.std.proofs.Common.{◌≡◌, ℕ, ◌<◌, List, [], ◌∷◌, ◌++◌, Bool, true, false, Some, Result, Ok, Err, IfOk, IfErr, sym, refl, ap, ◌∙◌, subst, arith, le_refl}
use mathlib.Core.Option.{some}
use mathlib.Core.List.{IsPrefix}
use lib.ListN.{get_elem?}
use Rattle.atomic_table.specs.Table.{Me}
use Rattle.geo_lock.specs.declared.view.View.{View}
use Rattle.geo_lock.specs.declared.claim.Claim.{Claim}
use Rattle.geo_lock.specs.Logged.{entries_with_seat, Grows}
use Rattle.geo_lock.specs.View.{a_claim, first_number, a_view, one_more, newcomer, in_turn, out_of_turn}
use Rattle.geo_lock.specs.Turns.{Found}
use Rattle.geo_lock.specs.Logged.{lacks_memory}
use Rattle.geo_lock.specs.Pass.{own_of, IsSound, PassView}
use Rattle.geo_lock.specs.Yard.{Makes}
use Rattle.geo_lock.proofs.Prefixes.{grows_none, grows_one, own_entry}

module _ {S B E : Type 0} (lawful : B → List E → Type 0) (seat_of : E
    → ℕ) (b : B) (number made : ℕ) (me : Me S (View B E)) (s : IsSound lawful seat_of b number made me) where
  abbrev Sound : ℕ → ℕ → Me S (View B E) → Type 0
  Sound = IsSound lawful seat_of b

  pub start_is : me.0.start ≡ Some b
  start_is = ap (λ (m : Me S (View B E)). m.0.start) s.me_is

  made_is : me.0.made ≡ made
  made_is = ap (λ (m : Me S (View B E)). m.0.made) s.me_is

  pub claims_are : me.0.claims ≡ a_claim number (own_of me.0.claims) me.0.seen ∷ []
  claims_are = ap (λ (m : Me S (View B E)). m.0.claims) s.me_is

  pub newcomer_sound : number ≡ 0 → (me' : Me S (View B E)) → me' ≡ (newcomer me.0, [])
      → (z : B) × IsSound lawful seat_of z made 0 me'
  newcomer_sound zeroth me' is = let more = s.none_more zeroth in let above : 0 < made = more.0 in (
    b,
    subst (λ (m : Me S (View B E)). Sound made 0 m) (sym is) record {
      me_is = λ i. (a_view (start_is i) me.0.seen (a_claim (made_is i) [] me.0.seen ∷ []) 0 false, []);
      own = more.1 made (le_refl made);
      law = s.law;
      none_more = λ z. absurd (omega arith);
    },
  )

  -- after a turn
  pub turned_sound : {L : Type 0} (start : L → B) (log : L → List E) (r : ℕ) (x : L)
      → Found start log lawful seat_of me.0 r x → (after : List E) → Grows seat_of number (log x) after → lawful b after
      → (me' : Me S (View B E)) → me' ≡ (out_of_turn seat_of (in_turn me.0 (log x)) after, [])
      → (z : B) × IsSound lawful seat_of z number made me'
  turned_sound start log r x f after grows law me' is =
      let claim : Claim E = a_claim number (own_of me.0.claims) me.0.seen in
      let at : get_elem? me.0.claims 0 ≡ some claim = ap (λ (z : List (Claim E)). get_elem? z 0) claims_are in
      let same : first_number me.0.claims ≡ number = ap first_number claims_are in (
        b,
        subst (λ (m : Me S (View B E)). Sound number made m) (sym is) record {
          me_is = λ i. (
            a_view (start_is i) after
                (a_claim (same i) (entries_with_seat seat_of (first_number me.0.claims) after) after ∷ [])
                (made_is i) false,
            [],
          );
          own = ap (λ (n : ℕ). entries_with_seat seat_of n after) (sym same);
          law = law;
          none_more = λ z. let under : number < me.0.made = f.below claim at z in let count = made_is in (
            omega arith,
            λ n above. grows.others n (λ e. absurd (omega arith))
                ∙ f.none_more claim at z n (omega arith),
          );
        },
      )

-- what a step tells its pass, which had p and has q
module _ {L E O R : Type 0} (log : L → List E) (seat_of : E → ℕ) (number : ℕ) (entry : O → E) (x y : L) where
  pub grown : ((o : O) → seat_of (entry o) ≡ number) → (res : Result O R)
      → IfOk res (λ o. log y ≡ log x ++ entry o ∷ []) → IfErr res (λ _. y ≡ x) → Grows seat_of number (log x) (log y)
  grown seats (Ok o) grew same =
      subst (λ (z : List E). Grows seat_of number (log x) z) (sym grew)
      (grows_one seat_of number (log x) (entry o) (seats o))
  grown seats (Err e) grew same =
      subst (λ (z : L). Grows seat_of number (log x) (log z)) (sym same) (grows_none seat_of number (log x))

module _ {L B E O R : Type 0} (log : L → List E) (seat_of : E → ℕ) (is_no_memory : R
    → Bool) (number : ℕ) (entry : O → E) (x y : L) where
  pub makes : ((o : O) → seat_of (entry o) ≡ number) → (answer : List E → Result O R) (p q : PassView B E)
      → IsPrefix p.seen (log x) → entries_with_seat seat_of number (log x) ≡ p.own → q.seen ≡ log y
      → q.own ≡ entries_with_seat seat_of number (log y)
      → (res : Result O R) → IfOk res (λ o. log y ≡ log x ++ entry o ∷ [])
      → (lacks_memory is_no_memory res ≡ false → res ≡ answer (log x))
      → IfOk res (λ o. Makes p q (entry o) (λ before. Ok o ≡ answer before))
  makes seats answer p q longer own saw has (Ok o) grew answers = record {
    before = log x;
    ends = saw ∙ grew;
    longer = longer;
    one_more = has
        ∙ (ap (λ (z : List E). entries_with_seat seat_of number z) grew
        ∙ (own_entry seat_of number (entry o) (seats o) (log x) ∙ ap (λ (z : List E). z ++ entry o ∷ []) own));
    answers = answers refl;
  }
  makes seats answer p q longer own saw has (Err e) grew answers = tt

-- what a refusal tells the pass: it adds nothing, it is the state's, and it isn't want of memory where the state's
-- test says so
module _ {L E O R : Type 0} (log : L → List E) (seat_of : E → ℕ) (is_no_memory : R → Bool) (number : ℕ) (x y : L) where
  pub unmade : (before after : List E) → entries_with_seat seat_of number (log x) ≡ before
      → after ≡ entries_with_seat seat_of number (log y) → (res : Result O R) → IfErr res (λ _. y ≡ x)
      → IfErr res (λ _. after ≡ before)
  unmade before after own has (Ok o) same = tt
  unmade before after own has (Err e) same =
      has ∙ (ap (λ (z : L). entries_with_seat seat_of number (log z)) same ∙ own)

  pub refused : (answer : List E → Result O R) (seen : List E) → seen ≡ log y → (res : Result O R)
      → IfErr res (λ _. y ≡ x) → (lacks_memory is_no_memory res ≡ false → res ≡ answer (log x))
      → IfErr res (λ e. is_no_memory e ≡ false → Err e ≡ answer seen)
  refused answer seen saw (Ok o) same answers = tt
  refused answer seen saw (Err e) same answers = λ w. answers w ∙ ap answer (sym (saw ∙ ap log same))

  pub sure : (takes_no_memory : List E → Bool) (seen : List E) → seen ≡ log y → (res : Result O R)
      → IfErr res (λ _. y ≡ x) → (takes_no_memory (log x) ≡ true → lacks_memory is_no_memory res ≡ false)
      → IfErr res (λ e. takes_no_memory seen ≡ true → is_no_memory e ≡ false)
  sure takes_no_memory seen saw (Ok o) same never = tt
  sure takes_no_memory seen saw (Err e) same never = λ t. never (ap takes_no_memory (sym (saw ∙ ap log same)) ∙ t)

-- out of turn, a pass has its own entries of the log
pub own_after : {S B E : Type 0} (seat_of : E → ℕ) (log : List E) (number : ℕ) (held left : Me S (View B E))
    → left ≡ (out_of_turn seat_of held.0 log, []) → first_number held.0.claims ≡ number
    → own_of left.0.claims ≡ entries_with_seat seat_of number log
own_after {S} {B} {E} seat_of log number held left turned first =
    ap (λ (z : Me S (View B E)). own_of z.0.claims) turned ∙ ap (λ (k : ℕ). entries_with_seat seat_of k log) first
