-- Steps that are tried one after the other.
use Rattle.std.specs.Prelude.{◌≡◌, List, [], ◌∷◌, ◌++◌, Option, Some, None, IfNone, IfSome, Err, is_ok}
use Rattle.std.proofs.Common.{append-nil, ap, refl, subst, ◌∙◌}
use mathlib.Core.List.{IsPrefix}
use Rattle.geo_model.specs.declared.step.Found.{Found}
use Rattle.geo_model.specs.declared.step.Outcome.{Outcome}
use Rattle.geo_model.specs.declared.step.Step.{Step}
use Rattle.geo_model.specs.declared.step.Step.TheVariants as steps
use Rattle.geo_model.specs.World.{World}
use Rattle.geo_model.specs.Step.{Answer, step}
use Rattle.geo_model.specs.Log.{replay}
use Rattle.geo_model.specs.FixedOrder.{WasIdle}
use Rattle.geo_model.specs.Passes.{entries_of_seat}
use Rattle.geo_lock.proofs.Prefixes.{prefix_self, prefix_trans}
use Rattle.geo_jobs.specs.declared.tried.Tried.{Tried}
use Rattle.geo_jobs.specs.declared.tried.Tried.TheVariants as tries
use Rattle.geo_jobs.specs.Passes.{Goes, IsGoodPass, MeshPass}
use Rattle.geo_jobs.proofs.Joins.{goes_join, goes_self}
use Rattle.geo_jobs.specs.Events.{AreInVain, DidLast, EndsAt, TriesInVain}
use Rattle.geo_jobs.specs.Kinds.{event_steps}
use Rattle.geo_jobs.specs.LanePasses.{MadeOneStep}

-- In vain

-- the own entries stay where none is added
same_own : (p q : MeshPass) → Goes p q [] → q.own ≡ p.own
same_own p q goes = goes.own ∙ append-nil p.own

-- one step was tried in vain
pub tried_in_vain : (opened : World) (p q : MeshPass) (st : Step) (found : Found) → IsGoodPass q → Goes p q []
    → step (replay opened q.seen) p.number st ≡ Err found → TriesInVain opened p q (st ∷ [])
tried_in_vain opened p q st found good goes is = record {
  goes = goes;
  each = (
    record {
      seen = q.seen;
      behind_first = goes.longer;
      before_last = prefix_self q.seen;
      own =
          subst (λ n. entries_of_seat n q.seen ≡ q.own) goes.same.number good.good.own_seen ∙ same_own p q goes;
      was_idle = ap (λ (a : Answer). is_ok a) is;
    },
    tt,
  );
}

none_in_vain : (opened : World) (p : MeshPass) → TriesInVain opened p p []
none_in_vain opened p = record { goes = goes_self p; each = tt }

-- the pass saw more behind them
seen_on : (opened : World) (p m q : MeshPass) (tried : List Step) → IsPrefix m.seen q.seen
    → AreInVain opened p m tried → AreInVain opened p q tried
seen_on opened p m q [] longer each = tt
seen_on opened p m q (st ∷ tried) longer (one, each) = (
  record {
    seen = one.seen;
    behind_first = one.behind_first;
    before_last = prefix_trans one.seen m.seen q.seen one.before_last longer;
    own = one.own;
    was_idle = one.was_idle;
  },
  seen_on opened p m q tried longer each,
)

-- the pass had seen less before them
seen_before : (opened : World) (p m q : MeshPass) (tried : List Step) → Goes p m [] → AreInVain opened m q tried
    → AreInVain opened p q tried
seen_before opened p m q [] goes each = tt
seen_before opened p m q (st ∷ tried) goes (one, each) = (
  record {
    seen = one.seen;
    behind_first = prefix_trans p.seen m.seen one.seen goes.longer one.behind_first;
    before_last = one.before_last;
    own = subst (λ n. entries_of_seat n one.seen ≡ m.own) goes.same.number one.own ∙ same_own p m goes;
    was_idle = subst (λ n. WasIdle opened one.seen n st) goes.same.number one.was_idle;
  },
  seen_before opened p m q tried goes each,
)

in_a_row : (opened : World) (p q : MeshPass) (one two : List Step) → AreInVain opened p q one
    → AreInVain opened p q two → AreInVain opened p q (one ++ two)
in_a_row opened p q [] two none rest = rest
in_a_row opened p q (st ∷ one) two (first, each) rest = (first, in_a_row opened p q one two each rest)

-- one part of the tries after another
pub vain_join : (opened : World) (p m q : MeshPass) (one two : List Step) → TriesInVain opened p m one
    → TriesInVain opened m q two → TriesInVain opened p q (one ++ two)
vain_join opened p m q one two first rest = record {
  goes = goes_join p m q [] [] first.goes rest.goes;
  each =
      in_a_row opened p q one two (seen_on opened p m q one rest.goes.longer first.each)
      (seen_before opened p m q two first.goes rest.each);
}

-- A step that ends them

adds_behind : (p m q : MeshPass) (st : Step) (o : Outcome) → Goes p m [] → MadeOneStep m q st o → MadeOneStep p q st o
adds_behind p m q st o goes adds =
    subst (λ n. Goes p q (record { seat = n; step = st; outcome = o } ∷ [])) goes.same.number
    (goes_join p m q [] (record { seat = m.number; step = st; outcome = o } ∷ []) goes adds)

last_behind : (opened : World) (p m q : MeshPass) (st : Step) (t : Tried) → Goes p m [] → DidLast opened m q st t
    → DidLast opened p q st t
last_behind opened p m q st (tries.Made o) goes did = adds_behind p m q st o goes did
last_behind opened p m q st (tries.NotEnabled found) goes did = did
last_behind opened p m q st tries.LogFull goes did = (goes_join p m q [] [] goes did.0, did.1)
last_behind opened p m q st tries.NoMemory goes did = goes_join p m q [] [] goes did

last_longer : (opened : World) (p q : MeshPass) (st : Step) (t : Tried) → DidLast opened p q st t
    → IsPrefix p.seen q.seen
last_longer opened p q st (tries.Made o) did = did.longer
last_longer opened p q st (tries.NotEnabled found) did = absurd did
last_longer opened p q st tries.LogFull did = did.0.longer
last_longer opened p q st tries.NoMemory did = did.longer

-- the tries ended at a step, behind some in vain
pub ends_behind : (opened : World) (p m q : MeshPass) (earlier later : List Step) (st : Step) (t : Tried)
    → event_steps ≡ earlier ++ st ∷ later → TriesInVain opened p m earlier → DidLast opened m q st t
    → EndsAt opened p q t
ends_behind opened p m q earlier later st t order vain did = record {
  step = st;
  reached = record {
    earlier = earlier;
    later = later;
    order = order;
    vain = seen_on opened p m q earlier (last_longer opened m q st t did) vain.each;
  };
  did = last_behind opened p m q st t vain.goes did;
}

-- they ended at the first of them
pub ends_at_once : (opened : World) (p q : MeshPass) (later : List Step) (st : Step) (t : Tried)
    → event_steps ≡ st ∷ later → DidLast opened p q st t → EndsAt opened p q t
ends_at_once opened p q later st t order did =
    ends_behind opened p p q [] later st t order (none_in_vain opened p) did

-- All four

-- the first of them ended the tries
pub ends_at_judge : (opened : World) (p q : MeshPass) (t : Tried) → DidLast opened p q steps.Judge t
    → EndsAt opened p q t
ends_at_judge opened p q t did =
    ends_at_once opened p q (steps.Event ∷ steps.Reap ∷ steps.Wash ∷ []) steps.Judge t refl did

-- the second
pub ends_at_event : (opened : World) (p m q : MeshPass) (t : Tried) → TriesInVain opened p m (steps.Judge ∷ [])
    → DidLast opened m q steps.Event t → EndsAt opened p q t
ends_at_event opened p m q t vain did =
    ends_behind opened p m q (steps.Judge ∷ []) (steps.Reap ∷ steps.Wash ∷ []) steps.Event t refl vain did

-- the third
pub ends_at_reap : (opened : World) (p m n q : MeshPass) (t : Tried) → TriesInVain opened p m (steps.Judge ∷ [])
    → TriesInVain opened m n (steps.Event ∷ []) → DidLast opened n q steps.Reap t → EndsAt opened p q t
ends_at_reap opened p m n q t one two did =
    ends_behind opened p n q (steps.Judge ∷ steps.Event ∷ []) (steps.Wash ∷ []) steps.Reap t refl
    (vain_join opened p m n (steps.Judge ∷ []) (steps.Event ∷ []) one two) did

three_in_vain : (opened : World) (p m n o : MeshPass) → TriesInVain opened p m (steps.Judge ∷ [])
    → TriesInVain opened m n (steps.Event ∷ []) → TriesInVain opened n o (steps.Reap ∷ [])
    → TriesInVain opened p o (steps.Judge ∷ steps.Event ∷ steps.Reap ∷ [])
three_in_vain opened p m n o one two three =
    vain_join opened p n o (steps.Judge ∷ steps.Event ∷ []) (steps.Reap ∷ [])
    (vain_join opened p m n (steps.Judge ∷ []) (steps.Event ∷ []) one two) three

-- the last, or none
pub ends_at_wash : (opened : World) (p m n o q : MeshPass) (r : Option Tried)
    → TriesInVain opened p m (steps.Judge ∷ []) → TriesInVain opened m n (steps.Event ∷ [])
    → TriesInVain opened n o (steps.Reap ∷ []) → IfSome r (λ t. DidLast opened o q steps.Wash t)
    → IfSome r (λ t. EndsAt opened p q t)
ends_at_wash opened p m n o q None one two three did = tt
ends_at_wash opened p m n o q (Some t) one two three did =
    ends_behind opened p o q (steps.Judge ∷ steps.Event ∷ steps.Reap ∷ []) [] steps.Wash t refl
    (three_in_vain opened p m n o one two three) did

pub all_in_vain : (opened : World) (p m n o q : MeshPass) (r : Option Tried)
    → TriesInVain opened p m (steps.Judge ∷ []) → TriesInVain opened m n (steps.Event ∷ [])
    → TriesInVain opened n o (steps.Reap ∷ []) → IfNone r (TriesInVain opened o q (steps.Wash ∷ []))
    → IfNone r (TriesInVain opened p q event_steps)
all_in_vain opened p m n o q None one two three four =
    vain_join opened p o q (steps.Judge ∷ steps.Event ∷ steps.Reap ∷ []) (steps.Wash ∷ [])
    (three_in_vain opened p m n o one two three) four
all_in_vain opened p m n o q (Some t) one two three four = tt
