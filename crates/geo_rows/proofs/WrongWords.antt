-- Words that aren't accepted: another answer than the usage line, and calls of the outside, are refused.
use Rattle.std.specs.Prelude.{◌≡◌, Option, Some, None, IsSome, IsSomeAnd}
use Rattle.std.proofs.Common.{refl, sym, ◌∙◌, ap, inr, subst}
use Rattle.geo_model.specs.World.{Plan}
use Rattle.geo_headline.specs.Modes.{Mode}
use Rattle.geo_headline.specs.Endings.{Call, Ending, Reported, ReportedButFault, BadWords, NoScript, ReadFault, ShelfFault, NoDisk, BadSize, OutOfMemory, LogFull, TooLong, Answered, NoTrace, IsBeforeDisks, status_of}
use Rattle.geo_headline.specs.Headline.{KeepsAll, IsBadWords}
use Rattle.geo_rows.specs.WrongPrograms.{IsRefused, AcceptsNone, ActsOnNoWords, AnswersNoWords}
use Rattle.geo_rows.proofs.WrongPrograms.{accepted_by}

some_log : {A : Type 0} (log : Option A) (P : A → Type 0) → IsSomeAnd log P → IsSome log
some_log None P h = absurd h
some_log (Some l) P h = refl

-- where a log came, the words are accepted
no_log : (call : Call) (mode : Mode) (plan : Plan) (ending : Ending) {A : Type 0} → AcceptsNone call
    → KeepsAll call mode plan ending → IsSome call.log → A
no_log call mode plan ending none kept some = absurd (none mode (kept.ends.is_opened some).parsed.accepted)

-- each other ending has its cause where words are accepted
bad_words : (call : Call) (mode : Mode) (plan : Plan) (ending : Ending) → AcceptsNone call
    → KeepsAll call mode plan ending → ending ≡ BadWords
bad_words call mode plan BadWords none kept = refl
bad_words call mode plan Reported none kept = no_log call mode plan Reported none kept kept.ends.cause.0
bad_words call mode plan (ReportedButFault name) none kept =
    no_log call mode plan (ReportedButFault name) none kept kept.ends.cause.0
bad_words call mode plan (NoScript line c) none kept = absurd (none mode (accepted_by call mode kept.ends.cause.0))
bad_words call mode plan ReadFault none kept = absurd (none mode (accepted_by call mode kept.ends.cause.0))
bad_words call mode plan (ShelfFault name) none kept = absurd (none mode kept.ends.cause.0.accepted)
bad_words call mode plan (NoDisk name) none kept = absurd (none mode kept.ends.cause.0.accepted)
bad_words call mode plan (BadSize name) none kept = absurd (none mode kept.ends.cause.0.accepted)
bad_words call mode plan OutOfMemory none kept = absurd (none mode kept.ends.cause)
bad_words call mode plan LogFull none kept =
    no_log call mode plan LogFull none kept (some_log call.log _ kept.ends.cause)
bad_words call mode plan TooLong none kept = absurd (none mode (accepted_by call mode kept.ends.cause.0))
bad_words call mode plan (Answered found) none kept = absurd (none _ kept.ends.cause.0)
bad_words call mode plan (NoTrace line) none kept = absurd (none _ kept.ends.cause.0)

pub answers_no_words-refused : IsRefused AnswersNoWords
answers_no_words-refused call mode plan ending wrong kept =
    wrong.1
    ((kept.texts.prints.whole wrong.2).status ∙ ap status_of (bad_words call mode plan ending wrong.0 kept))

pub acts_on_no_words-refused : IsRefused ActsOnNoWords
acts_on_no_words-refused call mode plan ending wrong kept =
    let is : BadWords ≡ ending = sym (bad_words call mode plan ending wrong.0 kept) in
    wrong.1 (
      kept.outside.untouched.source (inr (subst IsBadWords is tt)),
      kept.outside.untouched.shelf (inr (subst IsBeforeDisks is tt)),
    )

-- what `no_words_are_refused` says
pub ruleset no_words_are_refused = (answers_no_words-refused, acts_on_no_words-refused)
