use Rattle.mdr_fits.proofs.Layers.{no_block_dead, no_block_fn, no_block_int, no_block_lock, no_block_none}
use Rattle.mdr_fits.proofs.results.is_block.Goals as goal

pub returns-in-Int : goal.returns-in-Int
returns-in-Int c = no_block_int c.args.news.now c.args.shapes.now c.args.value _ _ c.in-Int.is

pub returns-in-Dead : goal.returns-in-Dead
returns-in-Dead c = no_block_dead c.args.news.now c.args.shapes.now c.args.value c.in-Dead.is

pub returns-in-Fn : goal.returns-in-Fn
returns-in-Fn c = no_block_fn c.args.news.now c.args.shapes.now c.args.value _ c.in-Fn.is

pub returns-in-Lock : goal.returns-in-Lock
returns-in-Lock c = no_block_lock c.args.news.now c.args.shapes.now c.args.value _ c.in-Lock.is

pub returns-in-NoValue : goal.returns-in-NoValue
returns-in-NoValue c = no_block_none c.args.news.now c.args.shapes.now c.args.value c.in-NoValue.is
