-- A server process as it is kept, whose requests are all of one client (own).
use Rattle.std.specs.Prelude.{ℕ, List, [], Option, Some, None, replicate}
use Rattle.world.specs.World.{Backend}
use Rattle.world.specs.declared.backends.Process.{Process}

-- this many requests of this client
abbrev pub wire_of : ℕ → Option ℕ → List ℕ
wire_of waiting None = []
wire_of waiting (Some label) = replicate waiting label

-- the server process that a row keeps
abbrev pub backend_of : Process → Backend
backend_of p = record {
  server = p.server;
  key = p.key;
  link = p.link;
  wire = wire_of p.waiting p.holder;
  running = p.running;
  readies = p.readies;
  holder = p.holder;
}
