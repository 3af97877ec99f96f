-- The promise of specs/Before.antt.
use Prim.Native.Nat.{ℕ}
use mathlib.Core.Path.{◌≡◌, refl}
use mathlib.Core.Bool.{false}
use mathlib.Core.List.{List, [], ◌∷◌}
use Rattle.def.specs.Speed.{is_super}
use Rattle.transfer.specs.Routes.{Queue, ring_for}
use Rattle.descriptor.specs.Word.{endpoint_descriptor}
use Rattle.context_block.specs.Blocks.{word_dci}
use Rattle.context_block.proofs.Promises as block
use Rattle.context.specs.Steps.{add_writes, add_all, configure_writes}
use Rattle.context.specs.Before.{add_all_before, configure_writes_before, BeforePromise}

all_before : (speed : ℕ) (queues : List Queue) (ws : List ℕ) → is_super speed ≡ false → add_all speed queues ws ≡ add_all_before speed queues ws
unfolding add_writes add_all add_all_before
all_before speed queues [] s = refl
all_before speed queues (w ∷ ws) s =
    rw (block.before_promise speed (endpoint_descriptor w) (ring_for (word_dci w) queues 0) s, all_before speed queues ws s)

pub before_promise : BeforePromise
unfolding configure_writes configure_writes_before
before_promise speed interface alternate dropped added queues dcis s = rw (all_before speed queues added s)
