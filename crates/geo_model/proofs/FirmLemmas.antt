-- A firm mesh is sound, steady and fitting, and one that is all three is firm: the same facts, grouped otherwise.
use Rattle.geo_model.specs.World.{World}
use Rattle.geo_model.specs.Sound.{Sound}
use Rattle.geo_model.specs.Steady.{Steady}
use Rattle.geo_model.specs.Fitting.{Fitting, Firm}

-- a firm mesh is sound
pub sound_of : (w : World) → Firm w → Sound w
sound_of w firm = record {
  ranks = firm.graph.ranks;
  counts = firm.demand.counts;
  providers = firm.graph.providers;
  numbers = firm.graph.numbers;
  handles = firm.handles;
  places = firm.demand.places;
  bio_numbers = firm.bios.numbers;
  bios = firm.bios.order;
  families = firm.bios.families;
  disks = firm.bios.disks;
  events = record { living = firm.taste.living; read_out = firm.bios.read_out; taste = firm.taste.order };
}

-- it is steady
pub steady_of : (w : World) → Firm w → Steady w
steady_of w firm = record {
  made = firm.graph.made;
  parts = firm.graph.parts;
  attached = firm.graph.attached;
  components = firm.demand.components;
  partial = firm.graph.partial;
  owners = firm.bios.owners;
  results = firm.bios.results;
  unmarked = firm.graph.unmarked;
}

-- it is fitting
pub fitting_of : (w : World) → Firm w → Fitting w
fitting_of w firm = record {
  disks = firm.sizes.disks;
  sectors = firm.sizes.sectors;
  wholes = firm.sizes.wholes;
  places = firm.sizes.places;
  one = firm.sizes.one;
  apart = firm.sizes.apart;
  sums = firm.sizes.sums;
  asked = firm.taste.asked;
  read = firm.bios.read;
  commands = firm.commands;
}

-- all three make it firm
pub firm_of : (w : World) → Sound w → Steady w → Fitting w → Firm w
firm_of w sound steady fitting = record {
  graph = record {
    ranks = sound.ranks;
    providers = sound.providers;
    numbers = sound.numbers;
    made = steady.made;
    parts = steady.parts;
    attached = steady.attached;
    partial = steady.partial;
    unmarked = steady.unmarked;
  };
  demand = record { counts = sound.counts; places = sound.places; components = steady.components };
  sizes = record {
    disks = fitting.disks;
    sectors = fitting.sectors;
    wholes = fitting.wholes;
    places = fitting.places;
    one = fitting.one;
    apart = fitting.apart;
    sums = fitting.sums;
  };
  handles = sound.handles;
  taste = record { living = sound.events.living; order = sound.events.taste; asked = fitting.asked };
  bios = record {
    numbers = sound.bio_numbers;
    order = sound.bios;
    families = sound.families;
    disks = sound.disks;
    read_out = sound.events.read_out;
    owners = steady.owners;
    results = steady.results;
    read = fitting.read;
  };
  commands = fitting.commands;
}
