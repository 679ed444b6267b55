-- Parts of a session, one behind the other.
use Rattle.std.proofs.Common.{◌≡◌, List, MatchResult, Option, None, Result, Ok, Err, sym, subst}
use Rattle.std.proofs.lemmas.Result.{MatchResult-at_ok}
use Rattle.geo_io.specs.Sink.{SinkView}
use Rattle.geo_io.specs.Source.{SourceView}
use Rattle.geo_nbd.specs.declared.export.Export.{Export}
use Rattle.geo_tags.specs.Tags.{TaggedView}
use Rattle.geo_serving.specs.declared.halt.Halt.{Halt}
use Rattle.geo_serving.specs.declared.talk.Chosen.{Chosen}
use Rattle.geo_serving.specs.Courses.{Course, Halted}
use Rattle.geo_serving.specs.Handles.{handle_at}
use Rattle.geo_serving.specs.Points.{Point, chosen_point, over, through}
use Rattle.geo_serving.proofs.Running.{course_none, course_on, halted_on}

-- from a point the session is over, or it halts
abbrev pub Ends : Point → SourceView → SinkView → Result (Unit {0}) Halt → SourceView → SinkView → Type 0
Ends p f t result r w = MatchResult result (λ done. Course p f t over r w) (λ halt. Halted p f t halt r w)

-- what goes on behind a course ends so from its beginning on
pub ends_on : (p q : Point) (f r s : SourceView) (t w x : SinkView) (result : Result (Unit {0}) Halt)
    → Course p f t q r w → Ends q r w result s x → Ends p f t result s x
ends_on p q f r s t w x (Ok done) c e = course_on p q over f r s t w x c e
ends_on p q f r s t w x (Err halt) c e = halted_on p q f r s t w x halt c e

-- the course behind an answer
pub course_ok : {A : Type 0} (p : Point) (q : A → Point) (f r : SourceView) (t w : SinkView) (result : Result A Halt)
    (a : A) → result ≡ Ok a
    → MatchResult result (λ x. Course p f t (q x) r w) (λ halt. Halted p f t halt r w) → Course p f t (q a) r w
course_ok p q f r t w result a e m =
    MatchResult-at_ok (λ x. Course p f t (q x) r w) (λ (halt : Halt). Halted p f t halt r w) a e m

-- no export was chosen, or it has no handle: the session is over
pub none_chosen : (exports : List Export) (mesh : TaggedView) (chosen : Option Chosen) (f : SourceView) (t : SinkView)
    → chosen ≡ None → Course (chosen_point exports mesh chosen) f t over f t
none_chosen exports mesh chosen f t e =
    subst (λ (x : Option Chosen). Course (chosen_point exports mesh x) f t over f t) (sym e) (course_none over f t)

pub no_handle : (exports : List Export) (mesh : TaggedView) (chosen : Chosen) (f : SourceView) (t : SinkView)
    → handle_at exports chosen.export ≡ None → Course (through chosen mesh (handle_at exports chosen.export)) f t over f t
no_handle exports mesh chosen f t e =
    subst (λ x. Course (through chosen mesh x) f t over f t) (sym e) (course_none over f t)
