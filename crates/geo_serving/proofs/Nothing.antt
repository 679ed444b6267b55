-- Nothing was read, and nothing was written.
use Rattle.std.proofs.Common.{◌≡◌, ℕ, List, [], Option, Some, None, refl, sym, arith}
use Rattle.std.proofs.lemmas.List.{append-nil}
use Rattle.geo_io.specs.Sink.{Grows, SinkView, Takes}
use Rattle.geo_io.specs.Source.{Gives, GivesAtMost, Goes, SourceView}

pub goes_none : (a : Option (List ℕ)) → Goes a [] a
goes_none None = tt
goes_none (Some left) = refl

grows_none : (a : Option (List ℕ)) → Grows a [] a
grows_none None = tt
grows_none (Some held) = sym (append-nil held)

-- nothing was given
pub gives_none : (f : SourceView) → Gives f [] f
gives_none f = record { given = sym (append-nil f.given); goes = goes_none f.left }

-- nothing was taken
pub takes_none : (t : SinkView) → Takes t [] t
takes_none t = record { taken = sym (append-nil t.taken); grows = grows_none t.held }

-- nothing was given, and that is at most so many
pub gives_at_most : (f : SourceView) (n : ℕ) → GivesAtMost f n f
gives_at_most f n = record { bytes = []; few = omega arith; gives = gives_none f }
