-- What a company's turn passes on of the purchase that it may be forced to make.
unfoldable pub use Rattle.forced_purchase.specs.Forced.{after_forced, concluded, next_to_sell, sold_further, sold_singly}
unfoldable pub use Rattle.forced_purchase.specs.Forced.{with_aid}
unfoldable pub use Rattle.forced_purchase.specs.Raise.{raise_judgement, raised_sale_judgement}
unfoldable pub use Rattle.forced_purchase.specs.Shortfall.{cheapest, falls_short, lack_of}
pub use Rattle.forced_purchase.specs.Forced.{one_share, with_one_sold}
pub use Rattle.forced_purchase.specs.Raise.{after_presidents_sale, after_raise_line, after_raises, needed_judgement}
pub use Rattle.forced_purchase.specs.Raise.{raise_ruled, with_ruling}
pub use Rattle.forced_purchase.specs.declared.operator.Operator.{Operator}
