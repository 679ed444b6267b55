-- What a disk worker did over several turns, with one turn more.
use Rattle.std.specs.Prelude.{◌≡◌, ℕ, eqb, List, [], ◌∷◌, ◌++◌, Option, Some, None, Contains, IsSome, IsSomeAnd, slice_set}
use Rattle.std.proofs.Common.{append-nil, append_assoc, inl, inr, refl, sym, ◌∙◌, subst}
use Rattle.std.proofs.lemmas.Bool.{eq-eqb}
use Rattle.std.proofs.lemmas.List.Elements.{All-append, All-cons, All-nil, Contains-append_left, Contains-append_right}
use Rattle.geo_disk.specs.declared.drive.Drive.{Drive}
use Rattle.geo_model.specs.declared.step.Entry.{Entry}
use Rattle.geo_model.specs.declared.step.Outcome.TheVariants as outcomes
use Rattle.geo_model.specs.declared.step.Request.{Request}
use Rattle.geo_model.specs.declared.step.Step.TheVariants as steps
use Rattle.geo_model.specs.World.{World}
use Rattle.geo_model.specs.Results.{request_of}
use Rattle.geo_laws_graph.proofs.Members.{Contains-here, Contains-map, filter-Contains}
use Rattle.geo_serve.specs.Drives.{DriveView}
use Rattle.geo_laws_disks.specs.DriveLaws.{AreTaken}
use Rattle.geo_jobs.proofs.Disks.{request_among, taken_more, taken_once}
use Rattle.geo_lock.specs.Yard.{IsPassOf, YardView}
use Rattle.geo_jobs.specs.declared.turn.Turn.{Turn}
use Rattle.geo_jobs.specs.declared.turn.Turn.TheVariants as turns
use Rattle.geo_jobs.specs.Passes.{Goes, IsGoodPass, MeshPass}
use Rattle.geo_jobs.proofs.Joins.{goes_join, goes_self, history_of, still_of}
use Rattle.geo_jobs.specs.declared.disk_job.DiskJob.{DiskJob}
use Rattle.geo_jobs.specs.Drives.{HasDrives, ServesAt, disks_of}
use Rattle.geo_jobs.specs.Turns.{DidDiskTurn, ServesBio, take_in, with_ticket}
use Rattle.geo_jobs.specs.Served.{IsOfDisks}
use Rattle.geo_jobs.specs.Ran.{DisksRan, TurnsAddUp}
use Rattle.geo_jobs.proofs.Places.{place_contained}
use Rattle.geo_jobs.proofs.Doing.{HaveDone, done_answered, done_none, done_quiet, numbers_stay}
use Rattle.geo_jobs.proofs.Answering.{answered_more}

-- a worker that made no turn
pub ran_none : {D : Type 0} (seen : Drive D → DriveView) (p : MeshPass) (items : List (ℕ × Drive D))
    → DisksRan seen p p items items
ran_none {D} seen p items = record {
  added = [];
  goes = goes_self p;
  kinds = All-nil (λ (e : Entry). IsOfDisks (disks_of items) e.step);
  served = record { taken = tt; answered = λ b asked. absurd (let bad : ⊥ = cc in bad); served = done_none seen items };
}

-- one that adds nothing
ran_rest : {D : Type 0} (seen : Drive D → DriveView) (p m q : MeshPass) (before mid : List (ℕ × Drive D))
    → DisksRan seen p m before mid → Goes m q [] → DisksRan seen p q before mid
ran_rest seen p m q before mid ran goes = record {
  added = ran.added;
  goes = subst (λ (es : List Entry). Goes p q es) (append-nil ran.added) (goes_join p m q ran.added [] ran.goes goes);
  kinds = ran.kinds;
  served = ran.served;
}

-- one that takes a bio, serves it and delivers
module _ {D : Type 0} (y : YardView _) (facts : List (ℕ × ℕ)) (seen : Drive D → DriveView) (p m q : MeshPass)
    (before mid after : List (ℕ × Drive D)) (of : IsPassOf y p) (good : IsGoodPass q)
    (ran : DisksRan seen p m before mid) (disk bio : ℕ) (more : List Entry) (goes : Goes m q more)
    (serves : ServesAt seen m.number disk bio mid after more) (has : HasDrives facts seen mid) where
  abbrev taking : Entry
  taking = record { seat = m.number; step = steps.Take disk bio; outcome = outcomes.Asked serves.request }

  abbrev delivering : Entry
  delivering = record { seat = m.number; step = steps.Deliver bio serves.got; outcome = outcomes.Delivered }

  abbrev with_take : List Entry
  with_take = ran.added ++ taking ∷ []

  abbrev with_both : List Entry
  with_both = ran.added ++ taking ∷ delivering ∷ []

  goes_all : Goes p q with_both
  goes_all =
      goes_join p m q ran.added (taking ∷ delivering ∷ []) ran.goes
      (subst (λ (es : List Entry). Goes m q es) serves.adds goes)

  -- what was added stands in what the pass has seen
  within : (z : Entry) → Contains with_both z → Contains q.seen z
  within z here =
      (filter-Contains (λ (e : Entry). eqb e.seat q.number) q.seen z
      (subst (λ (es : List Entry). Contains es z) (sym (good.good.own_seen ∙ goes_all.own))
      (Contains-append_right p.own with_both z here))).0

  one_within : (z : Entry) → Contains with_take z → Contains with_both z
  one_within z here =
      subst (λ (es : List Entry). Contains es z) (append_assoc ran.added (taking ∷ []) (delivering ∷ []))
      (Contains-append_left with_take (delivering ∷ []) z here)

  take_here : Contains with_take taking
  take_here = Contains-append_right ran.added (taking ∷ []) taking (Contains-here taking [])

  asked : request_of with_take bio ≡ Some serves.request
  asked =
      of_log with_take (λ z here. one_within z here) take_here
      ∙ sym (of_log (taking ∷ []) (λ z here. one_within z (Contains-append_right ran.added (taking ∷ []) z here))
      (Contains-here taking []))
      ∙ alone
    where
      of_log : (es : List Entry) → ((z : Entry) → Contains es z → Contains with_both z) → Contains es taking
          → request_of es bio ≡ request_of q.seen bio
      of_log es among here =
          let history = history_of y q (still_of y p q with_both of goes_all) good in
          request_among q.seen
          (taken_once y.start.plan y.start.facts history.plan.begins history.facts q.seen history.lawful.0) es
          (λ z there. within z (among z there)) bio
          (record { take = taking; here = here; takes = eq-eqb bio bio refl })

      alone : request_of (taking ∷ []) bio ≡ Some serves.request
      alone = rw (eq-eqb bio bio refl) refl

  taken_one : AreTaken with_take with_take
  taken_one = taken_more ran.added taking ran.served.taken tt

  did : HaveDone seen (with_take ++ delivering ∷ []) before
      (slice_set mid serves.answers.place (serves.request.disk, serves.answers.new))
  did =
      done_answered seen with_take delivering bio serves.got serves.request taken_one refl asked before mid
      serves.answers.place serves.answers.old serves.answers.new serves.answers.at has.apart serves.answers.serves
      (done_quiet seen ran.added taking before mid ran.served.taken refl ran.served.served)

  both : with_take ++ delivering ∷ [] ≡ with_both
  both = append_assoc ran.added (taking ∷ []) (delivering ∷ [])

  -- its disk is one of the worker's
  of_disks : Contains (disks_of before) disk
  of_disks =
      subst (λ n. Contains (disks_of before) n) serves.disk_is
      (subst (λ ns. Contains ns serves.request.disk)
      (numbers_stay seen ran.added before mid ran.served.served)
      (Contains-map (λ (z : ℕ × Drive D). z.0) mid (serves.request.disk, serves.answers.old)
      (place_contained mid serves.answers.place (serves.request.disk, serves.answers.old) serves.answers.at)))

  abbrev Kind : Entry → Type 0
  Kind e = IsOfDisks (disks_of before) e.step

  ran_served : DisksRan seen p q before after
  ran_served = record {
    added = with_both;
    goes = goes_all;
    kinds = All-append Kind ran.added (taking ∷ delivering ∷ []) ran.kinds
        (All-cons Kind taking (delivering ∷ []) of_disks (All-cons Kind delivering [] tt (All-nil Kind)));
    served = record {
      taken = subst (λ (es : List Entry). AreTaken es es) both
          (taken_more with_take delivering taken_one (subst (λ (o : Option Request). IsSome o) (sym asked) refl));
      answered = answered_more ran.added taking delivering disk bio serves.got refl refl ran.served.answered;
      served = subst (λ (es : List Entry). HaveDone seen es before after) both
          (subst (λ items. HaveDone seen (with_take ++ delivering ∷ []) before items) (sym serves.answers.drives) did);
    };
  }

-- a worker that went on, and then made one turn
pub ran_on : {D : Type 0} (y : YardView _) (opened : World) (facts : List (ℕ × ℕ)) (seen : Drive D → DriveView)
    (p m q : MeshPass) (before : List (ℕ × Drive D)) (a b : DiskJob D) (r : Turn) → IsPassOf y p → IsGoodPass q
    → HasDrives facts seen a.drives.items → DisksRan seen p m before a.drives.items
    → DidDiskTurn opened seen m q a b r → DisksRan seen p q before b.drives.items
ran_on {D} y opened facts seen p m q before a b turns.Worked of good has ran did = by (take_in did.0.step) did.1
  where
    by : (o : Option (ℕ × ℕ)) → IsSomeAnd o (λ (x : ℕ × ℕ). ServesBio seen x.0 x.1 m q (with_ticket a did.0) b)
        → DisksRan seen p q before b.drives.items
    by None works = absurd works
    by (Some x) works =
        ran_served y facts seen p m q before a.drives.items b.drives.items of good ran x.0 x.1 works.added works.goes
        works.serves has
ran_on {D} y opened facts seen p m q before a b turns.Idle of good has ran (inl empty) =
    subst (λ (j : DiskJob D). DisksRan seen p q before j.drives.items) (sym empty.0.same)
    (ran_rest seen p m q before a.drives.items ran empty.0.goes)
ran_on {D} y opened facts seen p m q before a b turns.Idle of good has ran (inr passed) =
    subst (λ (j : DiskJob D). DisksRan seen p q before j.drives.items) (sym passed.1.same)
    (ran_rest seen p m q before a.drives.items ran passed.1.goes)
ran_on y opened facts seen p m q before a b turns.Finished of good has ran did = absurd did
ran_on {D} y opened facts seen p m q before a b turns.LogFull of good has ran did =
    subst (λ (j : DiskJob D). DisksRan seen p q before j.drives.items) (sym did.1.same)
    (ran_rest seen p m q before a.drives.items ran did.1.goes)
ran_on {D} y opened facts seen p m q before a b turns.NoMemory of good has ran did =
    subst (λ (j : DiskJob D). DisksRan seen p q before j.drives.items) (sym did.1.same)
    (ran_rest seen p m q before a.drives.items ran did.1.goes)

-- both
pub turns_add_up : {D : Type 0} (seen : Drive D → DriveView) → TurnsAddUp seen
turns_add_up {D} seen = record {
  none = ran_none seen;
  one_more = λ y opened facts p m q before a b r. ran_on y opened facts seen p m q before a b r;
}
