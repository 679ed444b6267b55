-- A step that halts.
use Rattle.std.proofs.Common.{◌≡◌, ℕ, ◌≤◌, List, [], length, refl, sym, subst, arith}
use Rattle.geo_connection.specs.declared.stage.Stage.{Stage}
use Rattle.geo_connection.specs.Stages.{awaited, hear}
use Rattle.geo_io.specs.Sink.{SinkView}
use Rattle.geo_io.specs.Source.{Gives, GivesAtMost, SourceView}
use Rattle.geo_nbd.specs.declared.export.Export.{Export}
use Rattle.geo_tags.specs.Tags.{TaggedView}
use Rattle.geo_serving.specs.declared.halt.Halt.{Halt}
use Rattle.geo_serving.specs.declared.halt.Halt.TheVariants.{Gone, ReadFault, WriteFault, NoMemory}
use Rattle.geo_serving.specs.Courses.{BreaksOff, HaltsAt}
use Rattle.geo_serving.specs.Points.{Point, hears}
use Rattle.geo_serving.specs.Steps.{Step, awaited_at}
use Rattle.geo_serving.specs.Streams.{Breaks, CutsShort, ReadsShort, SaysShort, WritesShort}
use Rattle.geo_serving.proofs.Nothing.{gives_at_most, gives_none}

-- its bytes were read only in part
pub halts_cut : (p : Point) (n : ℕ) (halt : Halt) (f r : SourceView) (t : SinkView) → awaited_at p ≡ n
    → CutsShort halt n f r → HaltsAt p halt f t r t
halts_cut p n Gone f r t e h = (subst (λ (k : ℕ). CutsShort Gone k f r) (sym e) h, refl)
halts_cut p n ReadFault f r t e h = (subst (λ (k : ℕ). CutsShort ReadFault k f r) (sym e) h, refl)
halts_cut p n WriteFault f r t e h = absurd h.cause
halts_cut p n NoMemory f r t e h = absurd h.cause

-- nothing was read, since memory was wanting
pub halts_wanting : (p : Point) (f r : SourceView) (t w : SinkView) → r ≡ f → w ≡ t → HaltsAt p NoMemory f t r w
halts_wanting p f r t w e d =
    (subst (λ (x : SourceView). GivesAtMost f (awaited_at p) x) (sym e) (gives_at_most f (awaited_at p)), d)

-- the same, or they were read only in part
pub halts_read : (p : Point) (n : ℕ) (halt : Halt) (f r : SourceView) (t : SinkView) → awaited_at p ≡ n
    → ReadsShort halt n f r → HaltsAt p halt f t r t
halts_read p n Gone f r t e h = halts_cut p n Gone f r t e h
halts_read p n ReadFault f r t e h = halts_cut p n ReadFault f r t e h
halts_read p n WriteFault f r t e h = absurd h.cause
halts_read p n NoMemory f r t e h = halts_wanting p f r t t h refl

-- memory was wanting behind the bytes that were read
pub halts_behind : (p : Point) (bytes : List ℕ) (f r : SourceView) (t : SinkView) → length bytes ≤ awaited_at p
    → Gives f bytes r → HaltsAt p NoMemory f t r t
halts_behind p bytes f r t h g = (record { bytes = bytes; few = h; gives = g }, refl)

-- what is said in the handshake was written only in part, or memory was wanting for it
pub halts_said : (exports : List Export) (stage : Stage) (mesh : TaggedView) (bytes : List ℕ) (halt : Halt)
    (f r : SourceView) (t w : SinkView) → length bytes ≡ awaited stage → Gives f bytes r
    → SaysShort halt (hear exports stage bytes).sent t w → HaltsAt (hears exports stage mesh) halt f t r w
halts_said exports stage mesh bytes Gone f r t w e g h = absurd h
halts_said exports stage mesh bytes ReadFault f r t w e g h = absurd h
halts_said exports stage mesh bytes WriteFault f r t w e g h =
    record {
      bytes = bytes;
      said = (hear exports stage bytes).sent;
      next = _;
      step = (e, refl, refl);
      gives = g;
      breaks = h;
    }
halts_said exports stage mesh bytes NoMemory f r t w e g h =
    (record { bytes = bytes; few = omega (arith, e); gives = g }, h)

-- what is to be said where nothing is read was written only in part
pub halts_writing : (p next : Point) (said : List ℕ) (halt : Halt) (f : SourceView) (t w : SinkView)
    → ((bytes : List ℕ) → bytes ≡ [] → Step p bytes said next) → WritesShort halt said t w → HaltsAt p halt f t f w
halts_writing p next said Gone f t w step h = absurd h
halts_writing p next said ReadFault f t w step h = absurd h
halts_writing p next said NoMemory f t w step h = absurd h
halts_writing p next said WriteFault f t w step h =
    record { bytes = []; said = said; next = next; step = step [] refl; gives = gives_none f; breaks = h }
