pub mod CallOrders
