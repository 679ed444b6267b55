-- What a firm mesh says of a provider that a class accepts, and that a taste may be judged there.
use Rattle.std.proofs.Common.{◌≡◌, ℕ, ◌<◌, false, List, Option, Some, None, IfSome, ap, sym, rules}
use Rattle.std.proofs.lemmas.Bool.{or_parts}
use Rattle.geo_base.specs.declared.kind.Kind.{Kind}
use Rattle.geo_base.specs.declared.kind.Kind.TheVariants as kinds
use Rattle.geo_base.specs.declared.limits.TheConstants.{MAX_RANK, UNTASTED_RANK}
use Rattle.geo_model.specs.declared.class.Shape.{Shape}
use Rattle.geo_model.specs.Topology.{Topology, Geom, Provider, provider_at, geom_of_provider, is_errored}
use Rattle.geo_model.specs.Rank.{rank}
use Rattle.geo_model.specs.World.{World, Config, Taste, granted_in}
use Rattle.geo_model.specs.Events.{QueuedTopology}
use Rattle.geo_model.specs.WorldEvents.{queued_of, with_queued}
use Rattle.geo_model.specs.Acceptance.{accept}
use Rattle.geo_model.specs.Tasting.{facts_of, verdict_on}
use Rattle.geo_model.specs.Fitting.{Firm}
use Rattle.geo_laws_graph.proofs.Numbered.{number_found}
use Rattle.geo_laws_life.proofs.Found.{found-with, some-with, one-found}
use Rattle.geo_laws_making.proofs.Accepts.{accepts_stay}
use Rattle.geo_taste.specs.Accepts.{HaveSizes}
use Rattle.geo_taste.specs.FirmLaws.{HasAccepted, AcceptsAreFit, FirmMeshesAccept}
use Rattle.geo_access.specs.Access.{granted_by}
use Rattle.geo_taste.specs.Going.{going}
use Rattle.geo_taste.specs.Judging.{FirmMeshesJudge}
use Rattle.geo_taste.proofs.Saying.{verdict_named, AcceptsBytes, accepts_bytes}
use Rattle.geo_taste.proofs.Asking.{no_error_there}

-- Sizes

-- a firm mesh's providers have sizes of providers
firm_sizes : (w : World) → Firm w → HaveSizes w.topology
firm_sizes w firm = search rules

-- What accepting asks for

module _ (w : World) (s : Taste) (p : Provider) (kind : Kind) (bytes : List ℕ) (shape : Shape) (firm : Firm w)
    (has : HasAccepted w s p kind bytes shape) where
  -- the graph
  abbrev t : Topology Config
  t = w.topology

  -- the provider carries no error
  no_error : p.errored ≡ false
  no_error = search (rules, no_error_there t s.provider p has.found (or_parts (is_errored t s.provider) _ has.going).0)

  -- its geom isn't too high
  not_high : rank t p.geom < MAX_RANK
  not_high =
      search (
        rules,
        found-with (geom_of_provider t s.provider) (λ (g : Geom Config). rank t g.number < UNTASTED_RANK),
        one-found (provider_at t s.provider),
        number_found (λ (z : Geom Config). z.number) t.geoms p.geom,
      )

  -- what is made has sizes of providers
  made_sizes : (o : Option (QueuedTopology Config)) → accept (queued_of w) p shape ≡ o
      → IfSome o (λ made. HaveSizes made.topology)
  made_sizes None e = tt
  made_sizes (Some made) e =
      search (
        rules,
        firm_sizes (with_queued w made)
            (accepts_stay.accept w s p kind bytes shape made firm
            (record {
              taste = has.taste;
              asked = has.asked;
              going = has.going;
              found = has.found;
              verdict = has.verdict;
              makes =
                  e;
            })),
      )

  -- so what accepting asks holds
  accepts_fit : AcceptsAreFit w s p shape
  accepts_fit =
      search (
        rules,
        some-with (provider_at t s.provider) (λ x. (x.errored ≡ false) × (rank t x.geom < MAX_RANK)) p has.found
            (no_error, not_high),
        verdict_named (granted_in w) s bytes (facts_of t p) shape kind has.verdict,
        made_sizes (accept (queued_of w) p shape),
      )

-- so a firm mesh says
pub firm_meshes_accept : FirmMeshesAccept
firm_meshes_accept w s p kind bytes shape firm has = accepts_fit w s p kind bytes shape firm has

-- A taste

-- so a firm mesh says
pub firm_meshes_judge : FirmMeshesJudge
firm_meshes_judge w m s firm taste same p shape goes verdict =
    let graph : m.mesh.topology ≡ w.topology = ap (λ (q : QueuedTopology Config). q.topology) same in
    let accepts : AcceptsBytes (granted_by m.mesh) s (facts_of m.mesh.topology p) shape =
    accepts_bytes (granted_by m.mesh) s (facts_of m.mesh.topology p) shape verdict in
    search (
      rules,
      firm_meshes_accept w s p accepts.kind accepts.bytes shape firm,
      ap (λ (t : Topology Config). verdict_on (granted_by m.mesh) s accepts.kind accepts.bytes (facts_of t p))
          (sym graph),
    )
