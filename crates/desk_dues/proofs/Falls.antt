-- What rusts with a kind, by the table of next kinds and by that of the rules, kind by kind.
use Rattle.std.proofs.Common.{◌≡◌, Some, refl}
use Rattle.desk_dues.specs.NextKind.{rusted_with}
use Rattle.tables.specs.Train.{rusting_of}
use Rattle.tables.specs.declared.rolling_stock.Kind.{Kind}
use Rattle.tables.specs.declared.rolling_stock.Kind.TheVariants.{Two, Three, Four, Five, Six, Diesel}

-- what the table of next kinds says that the rules say too
pub rusts_as_ruled : (new kind : Kind) → rusted_with new ≡ Some kind → rusting_of kind ≡ Some new
rusts_as_ruled Two Two is = cc
rusts_as_ruled Two Three is = cc
rusts_as_ruled Two Four is = cc
rusts_as_ruled Two Five is = cc
rusts_as_ruled Two Six is = cc
rusts_as_ruled Two Diesel is = cc
rusts_as_ruled Three Two is = cc
rusts_as_ruled Three Three is = cc
rusts_as_ruled Three Four is = cc
rusts_as_ruled Three Five is = cc
rusts_as_ruled Three Six is = cc
rusts_as_ruled Three Diesel is = cc
rusts_as_ruled Four Two is = refl
rusts_as_ruled Four Three is = cc
rusts_as_ruled Four Four is = cc
rusts_as_ruled Four Five is = cc
rusts_as_ruled Four Six is = cc
rusts_as_ruled Four Diesel is = cc
rusts_as_ruled Five Two is = cc
rusts_as_ruled Five Three is = cc
rusts_as_ruled Five Four is = cc
rusts_as_ruled Five Five is = cc
rusts_as_ruled Five Six is = cc
rusts_as_ruled Five Diesel is = cc
rusts_as_ruled Six Two is = cc
rusts_as_ruled Six Three is = refl
rusts_as_ruled Six Four is = cc
rusts_as_ruled Six Five is = cc
rusts_as_ruled Six Six is = cc
rusts_as_ruled Six Diesel is = cc
rusts_as_ruled Diesel Two is = cc
rusts_as_ruled Diesel Three is = cc
rusts_as_ruled Diesel Four is = refl
rusts_as_ruled Diesel Five is = cc
rusts_as_ruled Diesel Six is = cc
rusts_as_ruled Diesel Diesel is = cc

-- and the other way round
pub rusts_no_other : (new kind : Kind) → rusting_of kind ≡ Some new → rusted_with new ≡ Some kind
rusts_no_other Two Two is = cc
rusts_no_other Two Three is = cc
rusts_no_other Two Four is = cc
rusts_no_other Two Five is = cc
rusts_no_other Two Six is = cc
rusts_no_other Two Diesel is = cc
rusts_no_other Three Two is = cc
rusts_no_other Three Three is = cc
rusts_no_other Three Four is = cc
rusts_no_other Three Five is = cc
rusts_no_other Three Six is = cc
rusts_no_other Three Diesel is = cc
rusts_no_other Four Two is = refl
rusts_no_other Four Three is = cc
rusts_no_other Four Four is = cc
rusts_no_other Four Five is = cc
rusts_no_other Four Six is = cc
rusts_no_other Four Diesel is = cc
rusts_no_other Five Two is = cc
rusts_no_other Five Three is = cc
rusts_no_other Five Four is = cc
rusts_no_other Five Five is = cc
rusts_no_other Five Six is = cc
rusts_no_other Five Diesel is = cc
rusts_no_other Six Two is = cc
rusts_no_other Six Three is = refl
rusts_no_other Six Four is = cc
rusts_no_other Six Five is = cc
rusts_no_other Six Six is = cc
rusts_no_other Six Diesel is = cc
rusts_no_other Diesel Two is = cc
rusts_no_other Diesel Three is = cc
rusts_no_other Diesel Four is = refl
rusts_no_other Diesel Five is = cc
rusts_no_other Diesel Six is = cc
rusts_no_other Diesel Diesel is = cc
