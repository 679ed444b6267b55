use Rattle.geo_access.specs.ShutLaws.{ShutMeshesAreCounted}
use Rattle.geo_access.proofs.Shut.{shut_meshes_are_counted}
use Rattle.geo_tests_core.proofs.built.open.Goals as goal

pub grant-requires-clause-counted : goal.grant-requires-clause-counted
grant-requires-clause-counted g c =
    ShutMeshesAreCounted.counted shut_meshes_are_counted c.consumer_of.new.topo c.in_ok-cons.ensures.shut
