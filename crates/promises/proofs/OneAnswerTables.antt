-- No second answer fits the contract of a public function of `tables`, one statement for each; `Post` as in OneAnswerClocks.antt. What writes a table leaves
-- the same in it.
use mathlib.Core.Path.{refl}
use Rattle.tables.proofs.mask.is_mask.Reads.{Post as is-mask}
use Rattle.tables.proofs.mask.masked.Reads.{Post as masked}
use Rattle.tables.proofs.members.list.Reads.{Post as list}
use Rattle.tables.proofs.members.list_lengths.Reads.{Post as list-lengths}
use Rattle.tables.proofs.ranks.close.Reads.{Post as close}
use Rattle.tables.proofs.ranks.cuts_of.Reads.{Post as cuts-of}
use Rattle.tables.proofs.ranks.highest.Reads.{Post as highest}
use Rattle.tables.proofs.ranks.close_rows.Reads.{Post as close-rows}
use Rattle.tables.proofs.slots.used_of.Reads.{Post as used-of}
use Rattle.tables.proofs.slots.place.Reads.{Post as place}
use Rattle.tables.proofs.slots.reach.Reads.{Post as reach}
use Rattle.tables.proofs.slots.covered.Reads.{Post as covered}
use Rattle.tables.proofs.slots.past_of.Reads.{Post as past-of}
use Rattle.tables.proofs.slots.held_set.Reads.{Post as held-set}
use Rattle.tables.proofs.slots.within.Reads.{Post as within}
use Rattle.tables.proofs.slots.id_at.Reads.{Post as id-at}
use Rattle.tables.proofs.table.at.Reads.{Post as at}
use Rattle.tables.proofs.table.put.Reads.{Post as put}
use Rattle.tables.proofs.table.row.Reads.{Post as row}
use Rattle.tables.proofs.table.put_row.Reads.{Post as put-row}
use Rattle.tables.proofs.tail.close_tail.Reads.{Post as close-tail}
use Rattle.tables.proofs.tail.close_tail_rows.Reads.{Post as close-tail-rows}
use Rattle.promises.proofs.OneAnswer.{one_answer, writes-once, Once, OnceWith}
use Rattle.promises.proofs.OneAnswerSets.{one_set, reaches-once}
use Rattle.promises.proofs.OneAnswerPositions.{OnceWhole}

-- ---- a mask

pub tables-is-mask-once : Once is-mask
tables-is-mask-once κs a x y s t p q = one_answer p q

pub tables-masked-once : OnceWhole masked
tables-masked-once κs a x y s t u w p q = one_set _ x y u w p q

-- ---- lists

pub tables-list-once : OnceWith list (λ κs s. s.1.0.now)
tables-list-once κs a x y s t p q = writes-once p q

pub tables-list-lengths-once : OnceWith list-lengths (λ κs s. s.1.0.now)
tables-list-lengths-once κs a x y s t p q = writes-once p q

-- ---- what closes ranks

pub tables-close-once : OnceWith close (λ κs s. s.0.now)
tables-close-once κs a x y s t p q = (refl, one_answer p q)

pub tables-cuts-of-once : OnceWhole cuts-of
tables-cuts-of-once κs a x y s t u w p q = one_set _ x y u w p q

pub tables-highest-once : Once highest
tables-highest-once κs a x y s t p q = one_answer p q

pub tables-close-rows-once : OnceWith close-rows (λ κs s. s.0.now)
tables-close-rows-once κs a x y s t p q = (refl, one_answer p q)

-- ---- the slots

pub tables-used-of-once : Once used-of
tables-used-of-once κs a x y s t p q = one_answer p q

pub tables-place-once : Once place
tables-place-once κs a x y s t p q = one_answer p q

pub tables-reach-once : Once reach
tables-reach-once κs a x y s t p q = reaches-once p q

pub tables-covered-once : OnceWhole covered
tables-covered-once κs a x y s t u w p q = one_set _ x y u w p q

pub tables-past_of-once : OnceWhole past-of
tables-past_of-once κs a x y s t u w p q = one_set _ x y u w p q

pub tables-held-set-once : OnceWhole held-set
tables-held-set-once κs a x y s t u w p q = one_set _ x y u w p q

pub tables-within-once : OnceWhole within
tables-within-once κs a x y s t u w p q = one_set _ x y u w p q

pub tables-id-at-once : Once id-at
tables-id-at-once κs a x y s t p q = one_answer p q

-- ---- one entry, one row

pub tables-at-once : Once at
tables-at-once κs a x y s t p q = one_answer p q

pub tables-put-once : OnceWith put (λ κs s. s.0.now)
tables-put-once κs a x y s t p q = (refl, one_answer p q)

pub tables-row-once : Once row
tables-row-once κs a x y s t p q = one_answer p q

pub tables-put-row-once : OnceWith put-row (λ κs s. s.0.now)
tables-put-row-once κs a x y s t p q = (refl, one_answer p q)

-- ---- a prefix that goes

pub tables-close-tail-once : OnceWith close-tail (λ κs s. s.0.now)
tables-close-tail-once κs a x y s t p q = (refl, one_answer p q)

pub tables-close-tail-rows-once : OnceWith close-tail-rows (λ κs s. s.0.now)
tables-close-tail-rows-once κs a x y s t p q = (refl, one_answer p q)
