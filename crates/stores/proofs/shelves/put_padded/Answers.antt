use Rattle.std.proofs.Common.{refl, ap, ◌∙◌, arith}
use Rattle.stores.specs.Calls.{put_store}
use Rattle.stores.specs.Shelves.{padded}
use Rattle.stores.proofs.ShelfCalls.{padded_is}
use Rattle.stores.proofs.shelves.put_padded.Goals as goal

pub returns-clause-store : goal.returns-clause-store
returns-clause-store g c =
    c.put.ensures.store
    ∙ ap (put_store (g.S.UnitStore.model c.args.s.now) c.args.unit)
    (padded_is c.args.n c.size-m.result 1024 c.args.bytes.now c.copy_from_slice.new.self c.copy_from_slice-2.new.self _ (omega arith) (omega (arith, (g.S.UnitStore.sound c.args.s.now).small)) c.requires.long c.copy_from_slice.ensures.after c.copy_from_slice-2.ensures.after refl
    ∙ ap (λ k. padded c.args.n k c.args.bytes.now) c.size-m.ensures)
