-- Steps of requests.
use Rattle.std.proofs.Common.{◌≡◌, ℕ, ◌≤◌, List, [], length, MatchResult, Option, Some, Result, Ok, Err, refl, sym, ap, subst, arith}
use Rattle.std.proofs.lemmas.Result.{MatchResult-at_ok}
use Rattle.geo_connection.specs.declared.turn.Turn.{Turn}
use Rattle.geo_connection.specs.declared.turn.Turn.TheVariants as turns
use Rattle.geo_connection.specs.Turns as calls
use Rattle.geo_io.specs.Sink.{SinkView}
use Rattle.geo_io.specs.Source.{Gives, SourceView}
use Rattle.geo_nbd.specs.declared.request.Request.{Request}
use Rattle.geo_server.specs.declared.service.Begun.{Begun}
use Rattle.geo_server.specs.Judging.{data_len}
use Rattle.geo_tags.specs.Tags.{TaggedView}
use Rattle.geo_serving.specs.declared.client.Client.{Client}
use Rattle.geo_serving.specs.declared.client.Doing.{Doing}
use Rattle.geo_serving.specs.declared.client.Doing.TheVariants as doings
use Rattle.geo_serving.specs.declared.halt.Halt.{Halt}
use Rattle.geo_serving.specs.declared.halt.Halt.TheVariants as halts
use Rattle.geo_serving.specs.Courses.{HaltsAt, Makes}
use Rattle.geo_serving.specs.Points.{Point, does, follows, over, point_of}
use Rattle.geo_serving.specs.Steps.{ComesWith, Meets, awaited_at, count_of, with_service}
use Rattle.geo_serving.specs.Streams.{WritesShort}
use Rattle.geo_serving.proofs.Halting.{halts_behind, halts_writing}
use Rattle.geo_serving.proofs.Nothing.{gives_none, takes_none}

-- a request came with as many bytes as its head says
comes_with : (client : Client) (mesh : TaggedView) (r : Request) (bytes : List ℕ) (next : Point) (n : ℕ)
    (count : Option ℕ) → count ≡ Some n → length bytes ≡ n → Meets client mesh r bytes next
    → ComesWith count client mesh r bytes next
comes_with client mesh r bytes next n count e len m =
    subst (λ (o : Option ℕ). ComesWith o client mesh r bytes next) (sym e) (len, m)

within : (bytes : List ℕ) (n : ℕ) (count : Option ℕ) → count ≡ Some n → length bytes ≡ n → length bytes ≤ count_of count
within bytes n count e len = subst (λ (o : Option ℕ). length bytes ≤ count_of o) (sym e) (omega (arith, len))

-- it begins, or memory is wanting for it
pub followed : (client after : Client) (mesh : TaggedView) (r : Request) (bytes : List ℕ) (n : ℕ) (f s : SourceView)
    (t : SinkView) (result : Result Doing Halt) → data_len r ≡ Some n → length bytes ≡ n → Gives f bytes s
    → MatchResult result (λ next. Meets client mesh r bytes (point_of after mesh next)) (λ halt. halt ≡ halts.NoMemory)
    → MatchResult result (λ next. Makes (follows client mesh r) f t (point_of after mesh next) s t)
    (λ halt. HaltsAt (follows client mesh r) halt f t s t)
followed client after mesh r bytes n f s t (Ok next) e len g m =
    record {
      bytes = bytes;
      said = [];
      step = (refl, comes_with client mesh r bytes (point_of after mesh next) n (data_len r) e len m);
      gives = g;
      takes = takes_none t;
    }
followed client after mesh r bytes n f s t (Err halt) e len g m =
    subst (λ (h : Halt). HaltsAt (follows client mesh r) h f t s t) (sym m)
    (halts_behind (follows client mesh r) bytes f s t (within bytes n (data_len r) e len) g)

-- a client whose requests alone are others
same_client : (a b : Client) → b.size ≡ a.size → b ≡ with_service a b.service
same_client a b e = ap (λ (n : ℕ). let c : Client = record { size = n; service = b.service } in c) e

-- a command was given to the mesh
pub gives_turn : (client after : Client) (mesh next : TaggedView) (turn following : Turn) (b : Begun) (f : SourceView)
    (t : SinkView) → turn ≡ turns.Gives b → after.size ≡ client.size
    → calls.Gives following client.service after.service mesh next b
    → Makes (does client mesh turn) f t (does after next following) f t
gives_turn client after mesh next turn following b f t e size g =
    subst (λ (x : Turn). Makes (does client mesh x) f t (does after next following) f t) (sym e)
    (record {
      bytes = [];
      said = [];
      step = (
        refl,
        (
          refl,
          record {
            turn = following;
            service = after.service;
            after = next;
            gives = g;
            leads = ap (λ (c : Client). does c next following) (same_client client after size);
          },
        ),
      );
      gives = gives_none f;
      takes = takes_none t;
    })

-- the step of the mesh was made
pub goes_turn : (client after : Client) (mesh next : TaggedView) (turn following : Turn) (f : SourceView) (t : SinkView)
    → turn ≡ turns.Moved → after.size ≡ client.size
    → calls.Goes following client.service after.service mesh next
    → Makes (does client mesh turn) f t (does after next following) f t
goes_turn client after mesh next turn following f t e size g =
    subst (λ (x : Turn). Makes (does client mesh x) f t (does after next following) f t) (sym e)
    (record {
      bytes = [];
      said = [];
      step = (
        refl,
        (
          refl,
          record {
            turn = following;
            service = after.service;
            after = next;
            goes = g;
            leads = ap (λ (c : Client). does c next following) (same_client client after size);
          },
        ),
      );
      gives = gives_none f;
      takes = takes_none t;
    })

-- a reply was written only in part
pub says_short : (client : Client) (mesh : TaggedView) (turn : Turn) (sent bytes : List ℕ) (halt : Halt)
    (f : SourceView) (t w : SinkView) → turn ≡ turns.Says sent → bytes ≡ sent → WritesShort halt bytes t w
    → HaltsAt (does client mesh turn) halt f t f w
says_short client mesh turn sent bytes halt f t w e same h =
    subst (λ (x : Turn). HaltsAt (does client mesh x) halt f t f w) (sym e)
    (halts_writing (does client mesh (turns.Says sent)) (does client mesh turns.Moved) bytes halt f t w
    (λ read none. (none, (same, refl))) h)

-- a turn is a step
pub does_step : (client after : Client) (mesh next : TaggedView) (doing : Doing) (turn : Turn) (f : SourceView)
    (t w : SinkView) (result : Result Doing Halt) → doing ≡ doings.Does turn
    → MatchResult result (λ later. Makes (does client mesh turn) f t (point_of after next later) f w)
    (λ halt. HaltsAt (does client mesh turn) halt f t f w)
    → MatchResult result (λ later. Makes (point_of client mesh doing) f t (point_of after next later) f w)
    (λ halt. HaltsAt (point_of client mesh doing) halt f t f w)
does_step client after mesh next doing turn f t w result e m =
    subst (λ (x : Doing). MatchResult result
    (λ later. Makes (point_of client mesh x) f t (point_of after next later) f w)
    (λ halt. HaltsAt (point_of client mesh x) halt f t f w)) (sym e) m

-- the step that was made
pub steps_ok : (client after : Client) (mesh next : TaggedView) (doing later : Doing) (f r : SourceView) (t w : SinkView)
    (result : Result Doing Halt) → result ≡ Ok later
    → MatchResult result (λ x. Makes (point_of client mesh doing) f t (point_of after next x) r w)
    (λ halt. HaltsAt (point_of client mesh doing) halt f t r w)
    → Makes (point_of client mesh doing) f t (point_of after next later) r w
steps_ok client after mesh next doing later f r t w result e m =
    MatchResult-at_ok (λ (x : Doing). Makes (point_of client mesh doing) f t (point_of after next x) r w)
    (λ (halt : Halt). HaltsAt (point_of client mesh doing) halt f t r w) later e m

-- a session that is over stays so
pub over_step : (client : Client) (mesh : TaggedView) (doing : Doing) (f : SourceView) (t : SinkView)
    → doing ≡ doings.Over → Makes (point_of client mesh doing) f t over f t
over_step client mesh doing f t e =
    subst (λ (x : Doing). Makes (point_of client mesh x) f t over f t) (sym e)
    (record {
      bytes = [];
      said = [];
      step = (refl, refl, refl);
      gives = gives_none f;
      takes = takes_none t;
    })
