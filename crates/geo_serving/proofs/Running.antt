-- Steps one behind the other.
use Rattle.std.proofs.Common.{◌≡◌, ℕ, List, [], ◌++◌, refl, sym, subst, append_assoc}
use Rattle.std.proofs.lemmas.List.{append-nil}
use Rattle.geo_io.specs.Sink.{SinkView}
use Rattle.geo_io.specs.Source.{SourceView}
use Rattle.geo_io.proofs.SinkLemmas.{Takes-more}
use Rattle.geo_io.proofs.SourceLemmas.{Gives-more}
use Rattle.geo_serving.specs.declared.halt.Halt.{Halt}
use Rattle.geo_serving.specs.Courses.{Course, Halted, HaltsAt, Makes, Steps, none, and_one}
use Rattle.geo_serving.specs.Points.{Point}
use Rattle.geo_serving.specs.Steps.{Step}
use Rattle.geo_serving.proofs.Nothing.{gives_none, takes_none}

-- no step yet
pub course_none : (p : Point) (f : SourceView) (t : SinkView) → Course p f t p f t
course_none p f t =
    record { bytes = []; said = []; steps = none; gives = gives_none f; takes = takes_none t }

-- one step more
pub course_and_one : (p q n : Point) (f r s : SourceView) (t w x : SinkView) → Course p f t q r w → Makes q r w n s x
    → Course p f t n s x
course_and_one p q n f r s t w x c m =
    record {
      bytes = c.bytes ++ m.bytes;
      said = c.said ++ m.said;
      steps = and_one c.bytes c.said m.bytes m.said q n c.steps m.step;
      gives = Gives-more f r s c.bytes m.bytes c.gives m.gives;
      takes = Takes-more t w x c.said m.said c.takes m.takes;
    }

-- one step alone
pub course_one : (p n : Point) (f s : SourceView) (t x : SinkView) → Makes p f t n s x → Course p f t n s x
course_one p n f s t x m = course_and_one p p n f f s t t x (course_none p f t) m

-- steps and more steps
steps_on : (p q n : Point) (a b c d : List ℕ) → Steps p a b q → Steps q c d n → Steps p (a ++ c) (b ++ d) n
steps_on p q n a b c d s none =
    subst (λ (x : List ℕ). Steps p x (b ++ []) q) (sym (append-nil a))
    (subst (λ (y : List ℕ). Steps p a y q) (sym (append-nil b)) s)
steps_on p q n a b c d s (and_one read said bytes sent at to more step) =
    subst (λ (x : List ℕ). Steps p x (b ++ (said ++ sent)) n) (append_assoc a read bytes)
    (subst (λ (y : List ℕ). Steps p ((a ++ read) ++ bytes) y n) (append_assoc b said sent)
    (and_one (a ++ read) (b ++ said) bytes sent at n (steps_on p q at a b read said s more) step))

-- a course and another one behind it
pub course_on : (p q n : Point) (f r s : SourceView) (t w x : SinkView) → Course p f t q r w → Course q r w n s x
    → Course p f t n s x
course_on p q n f r s t w x c d =
    record {
      bytes = c.bytes ++ d.bytes;
      said = c.said ++ d.said;
      steps = steps_on p q n c.bytes c.said d.bytes d.said c.steps d.steps;
      gives = Gives-more f r s c.bytes d.bytes c.gives d.gives;
      takes = Takes-more t w x c.said d.said c.takes d.takes;
    }

-- a course, and a session that goes on behind it and halts
pub halted_on : (p q : Point) (f r s : SourceView) (t w x : SinkView) (halt : Halt) → Course p f t q r w
    → Halted q r w halt s x → Halted p f t halt s x
halted_on p q f r s t w x halt c h =
    record {
      at = h.at;
      come = h.come;
      told = h.told;
      course = course_on p q h.at f r h.come t w h.told c h.course;
      halts = h.halts;
    }

-- a course, and a step that halts
pub halted_at : (p q : Point) (f r s : SourceView) (t w x : SinkView) (halt : Halt) → Course p f t q r w
    → HaltsAt q halt r w s x → Halted p f t halt s x
halted_at p q f r s t w x halt c h = record { at = q; come = r; told = w; course = c; halts = h }

-- the first step halts
pub halted_first : (p : Point) (f s : SourceView) (t x : SinkView) (halt : Halt) → HaltsAt p halt f t s x
    → Halted p f t halt s x
halted_first p f s t x halt h = halted_at p p f f s t t x halt (course_none p f t) h
