use Rattle.std.proofs.Common.{◌≡◌, ◌⊎◌, ℕ, ◌+◌, ◌<◌, ◌≤◌, Bool, true, false, nat_le, refl, sym, ◌∙◌, subst, inl, inr, arith}
use Rattle.std.proofs.lemmas.Bool.{cases_eq, leb-true, leb-false, cases_Bool}
use Rattle.geo_slots.specs.Slots.{value_at}
use Rattle.geo_mesh.specs.Rows.{passes}
use Rattle.geo_mesh.specs.Ranks.{ranked_links, links, user, is_dev_or_taste, is_attached, is_above, IsFirst}
use Rattle.geo_mesh.proofs.RankFirst.{attached-later, attached-above, above-linked, attached-ranked}
use Rattle.geo_mesh.proofs.ranks.ranked_consumer.Goals as goal

-- this is the first from `at` on that isn't DEV's, it isn't TASTE's, and none before `at` counts
pub returns-then-not-is_dev_or_taste : goal.returns-then-not-is_dev_or_taste
returns-then-not-is_dev_or_taste c =
    let first : IsFirst (is_above c.args.prov) (links c.args.edges.now).rows c.args.edges.now.consumers.next
    c.loop-cons.at c.in-Some.cons = c.in-Some.ensures in
    let later : is_dev_or_taste (user c.args.edges.now c.in-Some.cons) ≡ false =
    subst (λ x. is_dev_or_taste x ≡ false) c.user.ensures (sym c.is_dev_or_taste.ensures
    ∙ c.if-not-is_dev_or_taste.true) in
    record {
      past = omega (arith, first.past, c.loop-cons.invariant.past);
      passing =
          attached-ranked c.args.edges.now c.args.prov c.in-Some.cons later
          (above-linked c.args.edges.now c.args.prov c.in-Some.cons first.passing);
      least = λ m from_here there. pick m from_here there (nat_le c.loop-cons.at m) refl;
      known = first.known;
      bound = first.bound;
    }
  where
    pick : (m : ℕ) → c.args.from ≤ m
        → passes (is_attached c.args.prov) (value_at (ranked_links c.args.edges.now).rows m) ≡ true → (b : Bool)
        → nat_le c.loop-cons.at m ≡ b → c.in-Some.cons ≤ m
    pick m from_here there true e =
        c.in-Some.ensures.least m (leb-true c.loop-cons.at m e) (attached-above c.args.edges.now c.args.prov m there)
    pick m from_here there false e =
        absurd (c.loop-cons.invariant.none m from_here (leb-false c.loop-cons.at m e) there)

-- what was met is TASTE's, on which no rank stands, and what lies before it was passed
pub loop-cons-preserved : goal.loop-cons-preserved
loop-cons-preserved c =
    let first : IsFirst (is_above c.args.prov) (links c.args.edges.now).rows c.args.edges.now.consumers.next
    c.loop-cons.at c.in-Some.cons = c.in-Some.ensures in
    record {
      past = omega (arith, first.past, c.loop-cons.invariant.past);
      none = λ m from_here low there.
          pick m from_here low there (cases_eq m c.in-Some.cons) (nat_le c.loop-cons.at m) refl;
    }
  where
    pick : (m : ℕ) → c.args.from ≤ m → m < c.in-Some.cons + 1
        → passes (is_attached c.args.prov) (value_at (ranked_links c.args.edges.now).rows m) ≡ true
        → (m ≡ c.in-Some.cons) ⊎ (m ≡ c.in-Some.cons → ⊥)
        → (b : Bool) → nat_le c.loop-cons.at m ≡ b → ⊥
    pick m from_here low there (inl same) b e =
        let later : is_dev_or_taste (user c.args.edges.now m) ≡ false =
        attached-later c.args.edges.now c.args.prov m there in
        let here : is_dev_or_taste (user c.args.edges.now m) ≡ true =
        subst (λ n. is_dev_or_taste (user c.args.edges.now n) ≡ true) (sym same)
        (subst (λ x. is_dev_or_taste x ≡ true) c.user.ensures (sym c.is_dev_or_taste.ensures
        ∙ c.if-not-is_dev_or_taste.false)) in
        let never : true ≡ false = sym here ∙ later in cc
    pick m from_here low there (inr differs) true e =
        absurd (omega (
          arith,
          c.in-Some.ensures.least m (leb-true c.loop-cons.at m e)
              (attached-above c.args.edges.now c.args.prov m there),
          differs,
        ))
    pick m from_here low there (inr differs) false e =
        c.loop-cons.invariant.none m from_here (leb-false c.loop-cons.at m e) there

-- none from `at` on is attached to the provider but DEV's, and none before `at` counts
pub returns : goal.returns
returns c = λ m there. (elim (cases_Bool (nat_le c.args.from m)) [
  | inl e ↦
      let before : m < c.loop-cons.at = c.in_default.ensures m
      (attached-above c.args.edges.now c.args.prov m there) in
      absurd (c.loop-cons.invariant.none m (leb-true c.args.from m e) before there)
  | inr e ↦ leb-false c.args.from m e
])
