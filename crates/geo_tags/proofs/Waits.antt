-- Tags and the lines that are unanswered, as lines are answered and tokens come and go.
use Rattle.std.specs.Prelude.{◌≡◌, ◌≢◌, ℕ, ◌≤◌, List, [], Option, Some, None, IsSome, cond, is_some, filter, map, not, length, zip, slice_index_or, ◌∷◌}
use Rattle.std.specs.List.{enumerate_from, range_with_len}
use Rattle.std.proofs.Common.{refl, sym, ap, ◌∙◌, inl, inr, arith}
use Rattle.std.proofs.lemmas.Bool.{cases_eq, eq-eqb, ne_eqb}
use Rattle.slab.specs.Slab.{Slab, get, Updates}
use Rattle.geo_model.specs.declared.step.Outcome.{Outcome}
use Rattle.geo_model.specs.declared.step.Outcome.TheVariants as outcomes
use Rattle.geo_model.specs.declared.step.Reply.{Reply}
use Rattle.geo_model.specs.Opening.{bare_world, opening}
use Rattle.geo_model.specs.World.{Plan, commands_of}
use Rattle.geo_laws_replies.specs.ReplyLaws.{counts_reply, left_of_line, unanswered}
use Rattle.geo_laws_replies.proofs.PlanLines.{stands_leave}
use Rattle.geo_session.specs.Session.{SessionView, without_commands}
use Rattle.geo_tags.specs.Calls.{StaysInside}
use Rattle.geo_tags.specs.Tags.{tagged_view, EachWaits, Turns}

-- so many a slot waits for
abbrev pub weight : Option ℕ → ℕ
weight slot = cond (is_some slot) 1 0

-- The opening

-- no actor has a command left of a plan without commands
none_begin : (tag : ℕ) (plan : Plan) (actors : List ℕ)
    → left_of_line tag (map (commands_of (without_commands plan)) actors) ≡ 0
none_begin tag plan [] = refl
none_begin tag plan (a ∷ actors) = none_begin tag plan actors

-- so nothing is unanswered, and no tag waits
pub opening_waits : (plan : Plan) (facts : List (ℕ × ℕ)) (steps generation : ℕ) (slots : Slab ℕ)
    → slots.slots ≡ []
    → EachWaits (tagged_view (record {
      world = opening (without_commands plan) facts;
      steps = steps;
      generation = generation;
    }) slots)
unfolding opening
opening_waits plan facts steps generation slots none tag =
    stands_leave tag
    (filter (λ item. not item.1.0.later) (enumerate_from 0 (zip plan.disks facts)))
    (bare_world (without_commands plan) facts)
    ∙ begins
    ∙ ap (λ (s : List (Option ℕ)). weight (slice_index_or s tag None)) (sym none)
  where
    begins : unanswered tag (bare_world (without_commands plan) facts) ≡ 0
    begins = let left = none_begin tag plan (range_with_len 0 (length plan.actors)) in omega (arith, left)

-- What waits

-- a slot that waits has a token
pub has_token : (slot : Option ℕ) → 1 ≤ weight slot → IsSome slot
has_token None some = absurd (omega (arith, some))
has_token (Some token) some = refl

-- what doesn't reply answers no line
pub quiet_counts : (tag : ℕ) (o : Outcome) → StaysInside o → counts_reply tag o ≡ 0
quiet_counts tag (outcomes.Asked request) quiet = absurd quiet
quiet_counts tag (outcomes.Replied line reply) quiet = absurd quiet
quiet_counts tag _ quiet = refl

-- a reply answers its line once
pub reply_counts : (line : ℕ) (reply : Reply) → counts_reply line (outcomes.Replied line reply) ≡ 1
reply_counts line reply = ap (λ b. cond b 1 0) (eq-eqb line line refl)

pub others_count : (tag line : ℕ) (reply : Reply) → tag ≢ line → counts_reply tag (outcomes.Replied line reply) ≡ 0
others_count tag line reply other = ap (λ b. cond b 1 0) (ne_eqb line tag (λ same. other (sym same)))

module _ (old new : SessionView) (slots : Slab ℕ) (waits : EachWaits (tagged_view old slots)) where
  -- where each line is unanswered as before
  pub waits_still : ((tag : ℕ) → unanswered tag new.world ≡ unanswered tag old.world)
      → EachWaits (tagged_view new slots)
  waits_still same tag = same tag ∙ waits tag

  -- where one is unanswered as its slot is now, and the others as before
  pub waits_where : (later : Slab ℕ) (line : ℕ) (slot : Option ℕ) → Updates slots later line slot
      → unanswered line new.world ≡ weight slot
      → ((tag : ℕ) → tag ≢ line → unanswered tag new.world ≡ unanswered tag old.world)
      → EachWaits (tagged_view new later)
  waits_where later line slot updates here there tag = elim (cases_eq tag line) [
    | inl same ↦
        ap (λ n. unanswered n new.world) same ∙ here ∙ ap weight (sym updates.changed)
        ∙ ap (λ n. weight (get later n)) (sym same)
    | inr other ↦ there tag other ∙ waits tag ∙ ap weight (sym (updates.others tag other))
  ]

-- what changes a slot turns the token of its tag
pub turned : (old new : SessionView) (slots later : Slab ℕ) (line : ℕ) (slot : Option ℕ)
    → Updates slots later line slot → Turns (tagged_view old slots) (tagged_view new later) line slot
turned old new slots later line slot updates = record { here = updates.changed; others = updates.others }
