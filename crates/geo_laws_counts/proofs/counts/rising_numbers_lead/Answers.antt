use Rattle.geo_model.specs.Topology.{Consumer}
use Rattle.geo_laws_counts.proofs.Numbers.{numbers_lead, number_is_only, free_of}
use Rattle.geo_laws_counts.proofs.counts.rising_numbers_lead.Goals as goal

pub returns-clause-lead : goal.returns-clause-lead
returns-clause-lead g c = numbers_lead

pub returns-clause-differ : goal.returns-clause-differ
returns-clause-differ g c = number_is_only

pub returns-clause-free : goal.returns-clause-free
returns-clause-free g c t below = free_of (λ (x : Consumer). x.number) t.consumers t.next_consumer below
