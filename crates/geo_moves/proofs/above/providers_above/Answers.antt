use Rattle.std.proofs.Common.{◌∙◌, ◌+◌, ◌++◌, ◌∷◌, [], List, ℕ, slice_get, sym, ap, refl, subst, inl, inr, arith}
use Rattle.std.proofs.lemmas.Option.{slice_get_within}
use Rattle.geo_moves.proofs.Reaching.{IsReached, past-of, reached-begin, reached-end, reached-few, reached-on, told-at_end}
use Rattle.geo_moves.proofs.above.providers_above.Goals as goal

pub loop-found-init : goal.loop-found-init
loop-found-init c =
    let begin = c.in_ok-push.ensures.items ∙ ap (λ (xs : List ℕ). xs ++ c.args.prov ∷ []) c.new-above.ensures.items in
    record {
      told = inl (begin, refl);
      reached = λ sound.
          subst (λ (xs : List ℕ). IsReached c.args.topo.now.topology c.args.prov xs 0) (sym begin)
          (reached-begin c.args.topo.now.topology sound c.args.prov);
    }

-- all right above the provider at this place were put behind, so one place more is done
pub loop-found-preserved : goal.loop-found-preserved
loop-found-preserved c = record {
  told = inr c.in_ok-push_users.ensures.sound;
  reached = λ sound.
      subst (λ (xs : List ℕ). IsReached c.args.topo.now.topology c.args.prov xs (c.loop-found.next + 1))
      (sym c.in_ok-push_users.ensures.pushed)
      (reached-on c.args.topo.now.topology sound c.args.prov c.loop-found.above.items c.loop-found.next
      c.in-Some.found (c.loop-found.invariant.reached sound)
      (ap (λ (xs : List ℕ). slice_get xs c.loop-found.next) (sym c.deref.ensures.value)
      ∙ sym c.at.ensures ∙ c.in-Some.is));
}

-- no provider is in the list twice, so it has at most as many as there are, and one
pub loop-found-smaller : goal.loop-found-smaller
loop-found-smaller c =
    let few = reached-few c.args.topo.now.topology c.args.prov c.loop-found.above.items c.loop-found.next
    (c.loop-found.invariant.reached c.in_ok-push_users.ensures.sound) in
    let less = slice_get_within c.loop-found.above.items c.loop-found.next c.in-Some.found
    (ap (λ (xs : List ℕ). slice_get xs c.loop-found.next) (sym c.deref.ensures.value)
    ∙ sym c.at.ensures ∙ c.in-Some.is) in
    omega (arith, few, less)

-- of each in the list those right above it are in it too, so all that is reached is
pub returns : goal.returns
returns c = λ p.
    let past = past-of c.loop-found.above.items c.loop-found.next
    (ap (λ (xs : List ℕ). slice_get xs c.loop-found.next) (sym c.deref.ensures.value)
    ∙ sym c.at.ensures ∙ c.in_default.is) in
    let sound = told-at_end c.args.topo.now.topology c.args.prov c.loop-found.above.items c.loop-found.next
    c.loop-found.invariant.told past in
    reached-end c.args.topo.now.topology sound c.args.prov c.loop-found.above.items c.loop-found.next
    (c.loop-found.invariant.reached sound) past p
