-- What can be attached and detached (g_attach(9), g_detach(9)).
use Rattle.std.specs.Prelude.{◌≡◌, ℕ, Some, None}
use Rattle.geo_model.specs.Topology.{Topology, Provider, Consumer, provider_at, consumer_at}

-- a consumer that is attached to nothing, and a provider
pub record CanAttach {C : Type 0} (t : Topology C) (c p : ℕ) : Type 0 where
  pub consumer : Consumer
  pub stands : consumer_at t c ≡ Some consumer
  pub free : consumer.provider ≡ None
  pub provider : Provider
  pub offers : provider_at t p ≡ Some provider

-- a consumer that is attached to a provider that lives
pub record IsAttached {C : Type 0} (t : Topology C) (c : ℕ) : Type 0 where
  pub consumer : Consumer
  pub stands : consumer_at t c ≡ Some consumer
  pub number : ℕ
  pub at : consumer.provider ≡ Some number
  pub provider : Provider
  pub offers : provider_at t number ≡ Some provider
