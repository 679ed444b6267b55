-- A call that keeps all.
use Rattle.std.specs.Prelude.{◌≡◌, ℕ, List, [], ◌∷◌, ◌++◌, Ok, Err, All, refl, codes}
use Rattle.std.proofs.Common.{sym, ◌∙◌, arith, inl, inr}
use Rattle.std.proofs.lemmas.List.Elements.{All-nil, All-cons}
use Rattle.geo_disk.specs.declared.shelf.TakeAnswer.TheVariants as answers
use Rattle.geo_model.specs.declared.command.DiskKind.TheVariants.{Shelf}
use Rattle.geo_model.specs.declared.step.Entry.{Entry}
use Rattle.geo_model.specs.World.{Plan, World}
use Rattle.geo_model.specs.Script.{script, IsScript, Fault, empty_plan}
use Rattle.geo_headline.specs.Modes.{Mode, StepMode, Accepts, words_for}
use Rattle.geo_model.specs.Opening.{opening}
use Rattle.geo_model.specs.Plans.{MayBegin, FactsFit, IsDiskDecl}
use Rattle.geo_model.specs.Sound.{Sound}
use Rattle.geo_model.specs.Order.{is_at_rest}
use Rattle.geo_model.specs.Freeing.{wash_work}
use Rattle.geo_model.specs.Listing.{listing}
use Rattle.geo_model.specs.Report.{report, mesh_text}
use Rattle.geo_model.specs.Log.{IsSplitBy, IsPrefixOf, replay, Fits}
use Rattle.geo_model.specs.History.{KeepsHistory, RanToItsEnd}
use Rattle.geo_headline.specs.Outside.{HasFactSectors, IsThere, HasToldSize, IsDiskKept, DisksAreKept}
use Rattle.geo_headline.specs.Endings.{Reported, IsOpened}
use Rattle.geo_headline.specs.Replies.{EachCommandHasItsReply}
use Rattle.geo_headline.specs.Headline.{HaveFactSectors, KeepsAll}
use Rattle.geo_laws_life.proofs.Opened.{opening-sound}
use Rattle.geo_rows.specs.RightCalls.{quiet_call, later_disk, later_plan, later_text, silent_shelf, shelf_after}

-- the word `step` has one meaning
step-only : (m : Mode) → Accepts (codes "step" ∷ []) m → m ≡ StepMode
step-only StepMode a = refl
step-only m a = absurd (let e : words_for StepMode ≡ words_for m = a.spelled in let no : ⊥ = cc in no)

accepts : Accepts (codes "step" ∷ []) StepMode
accepts = record { spelled = refl; in_range = tt }

the-plan : (text : List ℕ) (plan : Plan) → script text ≡ Ok plan → (p : Plan) → IsScript text p → p ≡ plan
the-plan text plan good p e = let both : Ok p ≡ Ok plan = sym e ∙ good in let r : p ≡ plan = cc in r

no-fault : (text : List ℕ) (plan : Plan) → script text ≡ Ok plan → (f : Fault) → script text ≡ Err f → plan ≡ empty_plan
no-fault text plan good f e = absurd (let both : Ok plan ≡ Err f = sym good ∙ e in let no : ⊥ = cc in no)

later-script : script later_text ≡ Ok later_plan
unfolding script
later-script = refl

one : {X : Type 0} (P : X → Type 0) (x : X) → P x → All P (x ∷ [])
one P x p = All-cons P x [] p (All-nil P)

decl : IsDiskDecl later_disk
decl = record { name = refl; sector = inl refl; sectors = refl }

may-begin : MayBegin later_plan
may-begin = record {
  few_disks = omega arith;
  disks = one IsDiskDecl later_disk decl;
  disk_names = λ i j d less short. absurd (omega (arith, less, short));
  few_actors = omega arith;
  actors = All-nil _;
  actor_names = λ i j d less short. absurd (omega (arith, less, short));
  commands = All-nil _;
}

facts-fit : FactsFit later_plan ((512, 1000) ∷ [])
facts-fit = (record { sector = refl; sectors = tt; some = omega arith; limited = omega arith }, tt)

sound : Sound (opening later_plan ((512, 1000) ∷ []))
sound = opening-sound later_plan ((512, 1000) ∷ []) may-begin facts-fit

no-more : {A : Type 0} (xs : List Entry) (e : Entry) → IsSplitBy [] xs e → A
no-more [] e s = absurd (let x : [] ≡ e ∷ s.0 = s.1 in let no : ⊥ = cc in no)
no-more (x ∷ xs) e s = absurd (let y : [] ≡ x ∷ (xs ++ e ∷ s.0) = s.1 in let no : ⊥ = cc in no)

only-empty : (P : World → Type 0) → P (opening later_plan ((512, 1000) ∷ [])) → (xs : List Entry) → IsPrefixOf xs []
    → P (replay (opening later_plan ((512, 1000) ∷ [])) xs)
only-empty P p [] s = p
only-empty P p (x ∷ xs) s = absurd (let y : [] ≡ x ∷ (xs ++ s.0) = s.1 in let no : ⊥ = cc in no)

history : KeepsHistory (opening later_plan ((512, 1000) ∷ [])) []
history = record {
  history = record { legal = tt; sound = only-empty Sound sound };
  opens = λ xs e s. no-more xs e s;
  appends = λ xs e s. no-more xs e s;
  requests = λ xs e s. no-more xs e s;
  freed = λ xs e s. no-more xs e s;
}

at-end : RanToItsEnd (opening later_plan ((512, 1000) ∷ [])) []
unfolding opening is_at_rest wash_work
at-end = record { rest = refl; complete = λ xs e s. no-more xs e s }

nothing-printed : report later_plan (opening later_plan ((512, 1000) ∷ [])) [] ≡ []
unfolding opening report listing mesh_text
nothing-printed = refl

there : IsThere silent_shelf later_disk
there of_shelf = record { not_lent = λ lent. omega (arith, lent.1); image = tt }

told : HasToldSize silent_shelf (later_disk, (512, 1000))
told of_shelf = tt

opened : IsOpened quiet_call StepMode later_plan
opened = record {
  parsed = record {
    accepted = accepts;
    mesh = tt;
    read = record { few = omega arith; ended = refl; none_left = tt };
    script = later-script;
  };
  there = one (IsThere silent_shelf) later_disk there;
  facts_fit = facts-fit;
  told_sizes = one (HasToldSize silent_shelf) (later_disk, (512, 1000)) told;
}

kept : IsDiskKept silent_shelf shelf_after []
    (record { number = 0; decl = later_disk }) Shelf
kept = record { asked = refl; failures = refl; bytes = λ not_back. tt; reads = tt }

kept_disks : DisksAreKept later_plan silent_shelf shelf_after []
kept_disks =
    one (λ d. IsDiskKept silent_shelf shelf_after [] d d.decl.kind)
    (record { number = 0; decl = later_disk }) kept

-- the disk had 1,000 sectors
fact-sectors : HaveFactSectors later_plan ((512, 1000) ∷ []) shelf_after
fact-sectors = one (HasFactSectors shelf_after) (later_disk, (512, 1000)) (λ of_shelf. refl)

fitting : Fits (opening later_plan ((512, 1000) ∷ [])) []
unfolding opening
fitting = omega arith

-- it has no command, and no reply
replied : EachCommandHasItsReply later_plan []
replied = record { once = All-nil _; no_other = λ line. refl }

pub quiet : KeepsAll quiet_call StepMode later_plan Reported
quiet = record {
  texts = record {
    read_as = record {
      mode_is = step-only;
      plan_is = λ whole. the-plan later_text later_plan later-script;
      no_plan = no-fault later_text later_plan later-script;
      not_read = λ none. absurd (none (record { few = omega arith; ended = refl; none_left = tt }));
    };
    bytes = record { gave = refl; had_left = tt; took = refl };
    prints = record {
      cut_off = λ e. absurd (omega (arith, e));
      whole = λ _. record { status = refl; written = sym nothing-printed };
    };
    streams = record { writes = λ _. refl; reads = λ _. refl };
    reads = omega arith;
  };
  ends = record { cause = (refl, refl); has_log = refl; is_opened = λ _. opened };
  log = record { history = history; to_its_end = λ _. at-end; replies = λ _. replied; order = λ xs e s. no-more xs e s; fits = fitting };
  outside = record {
    disks = kept_disks;
    lent = record { faults = omega arith; gives = All-nil _ };
    calls = record { takes = λ name. refl; gives = λ name. refl; no_fault = λ _ _ _. refl };
    in_order = record {
      had = codes "d" ∷ [];
      missed = [];
      left = [];
      names = refl;
      missed_is = refl;
      answer = answers.NoMemory;
      answer_is = λ e. let bad : answers.NoMemory ≡ answers.Disk = e in cc;
      all = λ _. refl;
      calls = refl;
    };
    others = record {
      bytes = λ name foreign. tt;
      counts = λ name foreign. record { disk = refl; takes = refl; gives = refl; asked = refl; sectors = refl };
      still_lent = λ name in_lent. in_lent;
      of_plan = All-nil _;
    };
    unasked = tt;
    sizes = λ _. fact-sectors;
    images = tt;
    images_stand = λ name not_kept. tt;
    untouched = record {
      source = λ e. elim e [ inl x ↦ absurd x | inr x ↦ absurd x ];
      shelf = λ e. elim e [ inl x ↦ absurd x | inr x ↦ absurd x ];
    };
  };
}
