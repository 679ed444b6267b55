-- The reply to an accepted bio is its first, to its line, and its result, which if successful covers it.
use Rattle.std.specs.Prelude.{◌≡◌, ℕ, true, false, List, [], ◌∷◌, ◌++◌, length, count_by, Option, Some, None, IsSomeAnd, Contains}
use Rattle.std.proofs.Common.{inl, inr, refl, sym, ◌∙◌, ap, subst, arith}
use Rattle.std.proofs.lemmas.Bool.{both_ways, eq-eqb}
use Rattle.std.proofs.lemmas.List.Elements.{All-contains, All-map, Contains-append_cases}
use Rattle.std.proofs.lemmas.List.Sums.{length-filter}
use Rattle.geo_model.specs.declared.step.BioResult.{BioResult}
use Rattle.geo_model.specs.declared.step.Entry.{Entry}
use Rattle.geo_model.specs.declared.step.Outcome.TheVariants as outcomes
use Rattle.geo_model.specs.declared.step.Owner.TheVariants as owners
use Rattle.geo_model.specs.declared.step.Reply.{Reply}
use Rattle.geo_model.specs.declared.step.Step.TheVariants as steps
use Rattle.geo_model.specs.Topology.{Provider, provider_at}
use Rattle.geo_model.specs.World.{World, Bio, bio_at}
use Rattle.geo_model.specs.Bios.{reply_of_result}
use Rattle.geo_model.specs.Log.{Moment}
use Rattle.geo_model.specs.Results.{Covers, CoversEnds, CoversRange, Leaf, entries_of, leaves, result_of}
use Rattle.geo_model.specs.History.{Acceptance, CoversFrom, IsSuccess, RepliesWithResult, is_reply_to}
use Rattle.geo_laws_graph.proofs.Members.{All-from_contained}
use Rattle.geo_laws_graph.proofs.Numbered.{filter-pushed_hit, number_found}
use Rattle.geo_laws_bios.proofs.Items.{none_kept}
use Rattle.geo_laws_requests.proofs.Looks.{entries_of_both}
use Rattle.geo_laws_requests.proofs.Finished.{finished_stay}
use Rattle.geo_laws_maps.specs.Covers.{CoversBy}
use Rattle.geo_laws_requests.specs.Covering.{CoversThere}
use Rattle.geo_laws_requests.specs.Ledger.{HasResult, IsCompleted, IsLogged, IsOnItsWay, IsSameRequest, Ledger}
use Rattle.geo_laws_requests.proofs.Covered.{covers_request, covers_stay}
use Rattle.geo_laws_requests.proofs.Quiet.{moment_of}
use Rattle.geo_laws_requests.proofs.Accounted.{only_one}
use Rattle.geo_laws_requests.proofs.Roots.{same_map_back, same_request_back}

-- of what a bio covers in the world of now, from the world of its acceptance
pub covers_then : (h : List Moment) (w : World) (a : Acceptance) (x : Bio) (found : List Leaf) → x.number ≡ a.bio
    → leaves h a.bio ≡ found → IsOnItsWay w a x → CoversThere w x found → CoversFrom a h
covers_then h w a x found number are way covers = by (bio_at a.world a.bio) refl way.same
  where
    before : CoversThere a.world x found
    before = covers_stay w a.world x found (same_map_back a.world w x.target way.its_map) covers

    there : (y : Bio) → y.number ≡ a.bio → (o : Option Provider) → IsSomeAnd o (λ p. CoversBy a.world y p found)
        → IsSomeAnd o (λ p. Covers a.world h y p)
    there y its None some = some
    there y its (Some p) some =
        let same : found ≡ leaves h y.number = sym are ∙ ap (λ n. leaves h n) (sym its) in
        record {
          range = λ moves. subst (λ l. CoversRange a.world y p l) same (some.range moves);
          flush = λ flushes. subst (λ l. CoversEnds a.world y p l) same (some.flush flushes);
        }

    by : (o : Option Bio) → bio_at a.world a.bio ≡ o → IsSomeAnd o (λ y. IsSameRequest y x)
        → IsSomeAnd o (λ y. IsSomeAnd (provider_at a.world.topology y.target) (λ p. Covers a.world h y p))
    by None is some = some
    by (Some y) is some =
        there y (number_found (λ (z : Bio). z.number) a.world.bios a.bio y is) (provider_at a.world.topology y.target)
        (covers_request a.world x y found (same_request_back y x some) before)

-- an entry that is the Up of a bio and a reply is a reply to it
pub reply_is : (b : ℕ) (e : Entry) (line : ℕ) (given : Reply) → e.step ≡ steps.Up b
    → e.outcome ≡ outcomes.Replied line given
    → is_reply_to b e ≡ true
reply_is b e line given up is = rw (up, is, eq-eqb b b refl) refl

module _ (h : List Moment) (w v : World) (seat b : ℕ) (line : ℕ) (r : BioResult) (ledger : Ledger h w)
    (x : Bio) (same : x.number ≡ b) (handle : ℕ) (of_line : x.owner ≡ owners.Line handle line)
    (logged : IsLogged h w x) (has : HasResult h w x r) where
  -- the moment of the reply
  abbrev this : Moment
  this = moment_of w seat (steps.Up b) (outcomes.Replied line (reply_of_result r))

  -- it is a reply to the bio
  this_replies : (n : ℕ) → n ≡ x.number → is_reply_to n this.entry ≡ true
  this_replies n it = rw (it ∙ same, eq-eqb b b refl) refl

  -- the result stays the result
  its_result : result_of (h ++ this ∷ []) x.number ≡ Some r
  its_result = finished_stay.results h (this ∷ []) x.number r has.is

  -- none replied before
  none_before : (n : ℕ) → n ≡ x.number → (e : Entry) → Contains (entries_of h) e → is_reply_to n e ≡ false
  none_before n it e here =
      ap (λ k. is_reply_to k e) it
      ∙ All-contains (λ e. is_reply_to x.number e ≡ false) (entries_of h) e
      (All-map (λ e. is_reply_to x.number e ≡ false) (λ m. m.entry) h logged.unreplied) here

  -- there is one reply
  one_reply : (n : ℕ) → n ≡ x.number → count_by (is_reply_to n) (entries_of (h ++ this ∷ [])) ≡ 1
  one_reply n it =
      ap (λ log. count_by (is_reply_to n) log) (entries_of_both h (this ∷ []))
      ∙ sym (length-filter (is_reply_to n) (entries_of h ++ this.entry ∷ []))
      ∙ ap (λ es. length es)
      (filter-pushed_hit (is_reply_to n) (entries_of h) this.entry (this_replies n it)
      ∙ ap (λ es. es ++ this.entry ∷ [])
      (none_kept (is_reply_to n) (entries_of h)
      (All-from_contained (λ e. is_reply_to n e ≡ false) (entries_of h) (λ e here. none_before n it e here))))

  -- a reply that stands in the log is this one
  pub completed_now : (a : Acceptance) → a.bio ≡ x.number → IsOnItsWay w a x → IsCompleted (h ++ this ∷ []) a
  completed_now a it way = record {
    completes = record {
      at_most_once = omega (arith, one_reply a.bio it);
      reply = λ e l given in_log is_up is.
          elim (Contains-append_cases (entries_of h) (this.entry ∷ []) e
          (subst (λ log. Contains log e) (entries_of_both h (this ∷ [])) in_log)) [
            | inl before ↦
                absurd
                (both_ways (is_reply_to a.bio e) (none_before a.bio it e before) (reply_is a.bio e l given is_up is))
            | inr new ↦ this_one e l given (only_one e this.entry new) is
          ];
      covers = λ any. subst (λ n. IsSomeAnd (result_of (h ++ this ∷ []) n)
          (λ z. IsSuccess z → CoversFrom a (h ++ this ∷ []))) (sym it)
          (rw its_result covered);
    };
    replied = one_reply a.bio it;
  }
    where
      this_one : (e : Entry) (l : ℕ) (given : Reply) → e ≡ this.entry → e.outcome ≡ outcomes.Replied l given
          → RepliesWithResult a (h ++ this ∷ []) l given
      this_one e l given one is =
          let both : outcomes.Replied line (reply_of_result r) ≡ outcomes.Replied l given =
          sym (ap (λ (z : Entry). z.outcome) one) ∙ is in
          let its_line : line ≡ l = cc in
          let its_reply : reply_of_result r ≡ given = cc in
          let way_line : owners.Line handle line ≡ owners.Line way.handle a.line = sym of_line ∙ way.owner in
          let lines : line ≡ a.line = cc in
          record {
            same_line = sym its_line ∙ lines;
            is_result = subst (λ n. IsSomeAnd (result_of (h ++ this ∷ []) n) (λ z. given ≡ reply_of_result z)) (sym it)
                (rw its_result (sym its_reply));
          }

      covered : IsSuccess r → CoversFrom a (h ++ this ∷ [])
      covered success =
          covers_then (h ++ this ∷ []) w a x (leaves h x.number) (sym it)
          (ap (λ n. leaves (h ++ this ∷ []) n) it ∙ finished_stay.leaves h (this ∷ []) x.number r ledger.taken has.is)
          way (has.covers success)
